-- What a call does to a master's record, and what it gives of the domain. No contract cites this file.
--   Moves            what a call at t may do to a record and to the list of what was sent in its domain
--   master_moves     what a call of a good node does to a master's record, and gives in its domain, is such a move
-- Assumes nothing.
use Rattle.std.specs.Prelude.{Err, Ok, Option, Result, ⊤}
use Prim.Native.Nat.{ℕ, zero, suc, ◌%◌, ◌≤◌, ◌<◌}
use mathlib.Core.Path.{◌≡◌, refl, sym, ap, ◌∙◌, subst}
use mathlib.Core.Bool.{Bool, true, false, and-false}
use mathlib.Core.List.{List, [], ◌∷◌, ◌++◌}
use native.Mathlib.Omega.{arith}
use lib.Dec.{leb, ltb, eqb}
use lib.ListN.{length, drop, set as put}
use lib.Seq.{set-get_or, take_at}
use borrow.Author.Tests.{eq-eqb, ne_eqb}
use Rattle.settings.specs.Node.{places}
use Rattle.frame.specs.ByteTwo.{counters}
use Rattle.round.specs.Turn.{next_place}
use Rattle.promise.proofs.Tests.{either, either_told}
use Rattle.clock.specs.declared.reading.VirtualLocalTime.{VirtualLocalTime}
use Rattle.clock.specs.declared.time.GlobalTime.{GlobalTime}
use Rattle.clock.specs.declared.base.TimeBase.{TimeBase}
use Rattle.clock.specs.Base.{time_at}
use Rattle.frame.specs.declared.data_ids.DataIds.{DataIds}
use Rattle.frame.specs.declared.values.Frame.{Frame}
use Rattle.frame.specs.declared.values.Frame.TheVariants.{Sync as sync, Fup as fup}
use Rattle.frame_read.specs.Read.{read_of}
use Rattle.frame_write.specs.Write.{bytes_of}
use Rattle.frame_write.proofs.Laws.{bytes_length}
use Rattle.settings.specs.declared.domain_settings.Role.{Role}
use Rattle.settings.specs.declared.domain_settings.Role.TheVariants.{Master}
use Rattle.admission.specs.declared.Needed.TheVariants.{Master as master}
use Rattle.admission.specs.Reading.{is_good_reading}
use Rattle.admission.proofs.Laws.{good_reading, by_admission, master_admitted}
use Rattle.frame.specs.Values.{domain_in}
use Rattle.admission.specs.FrameAdmission.{read_for}
use Rattle.domain.specs.declared.Domain.{Domain}
use Rattle.master_rules.proofs.Laws.{DueAt, by_due}
use Rattle.master_follow.specs.Follow.{whole_of, ovs_of}
use Rattle.master_follow.proofs.Laws.{OpenFor, by_follow}
use Rattle.master_send.specs.Send.{sent_of, send_as}
use Rattle.master_confirm.specs.Confirm.{followed_of, confirm_as}
use Rattle.call_frame.specs.FrameCall.{frame_call_as, frame_call_of}
use Rattle.call_set.specs.SetCall.{set_stepped, set_call_as, set_call_of}
use Rattle.call_confirm.specs.ConfirmCall.{confirm_stepped, confirm_call_as, confirm_call_of, confirm_bytes}
use Rattle.domain.specs.Records.{record_at}
use Rattle.round.specs.Round.{frames_by, sent_after, goes}
use Rattle.round.specs.Turn.{turn_of, next_after}
use Rattle.node.specs.declared.Node.{Node}
use Rattle.node.specs.Frame.{addressed_by}
use Rattle.node.specs.CycleAnswer.{cycle_count}
use Rattle.node.specs.Cycle.{is_room_for, node_cycle_of, cycle_bytes}
use Rattle.node_call.specs.Calls.{
  Call,
  frame,
  read,
  set,
  cycle,
  confirm,
  reading_of,
  node_after,
  follows as answers,
  answer_to,
  eights,
  given_by,
}
use Rattle.node_laws.specs.Good.{Good}
use Rattle.node_laws.proofs.Rounds.{AllGood, all_later, stored_good, turn_good}
use Rattle.node_laws.proofs.Cycles.{addressed, given_here}
use Rattle.node_laws.proofs.Bounds.{sent_within_lem, ovs_here}
use Rattle.history.specs.History.{Sent, noted}
use Rattle.history.proofs.Placed.{placed}
use Rattle.history.proofs.Row.{sync_values, fup_values}
use Rattle.domain.specs.declared.DomainCall.{DomainCall}
use Rattle.domain.specs.declared.DomainStep.{DomainStep}
use Rattle.frame.specs.declared.values.Fup.{Fup}
use Rattle.frame_read.specs.declared.NoFrame.{NoFrame}
use Rattle.frame_read.specs.declared.NoFrame.TheVariants.{LengthNot8, NoSuchType}
use Rattle.master_follow.specs.declared.Follow.{Follow}
use Rattle.master_rules.specs.declared.due.Due.{Due}
use Rattle.node.specs.declared.NodeStep.{NodeStep}
use Rattle.refusal.specs.Numbers.{Outcome, outcome_number}

-- ---- the frames of a record at t: its SYNC of base b, and the FUP of what it sent at `at` with time `from`
abbrev pub sync_of : VirtualLocalTime → Domain → TimeBase → Frame
sync_of t d b = sync (sync_values d.settings d.number (d.next_counter % counters) (time_at b t).0)

abbrev pub fup_of : VirtualLocalTime → Domain → (counter : ℕ) (from : GlobalTime) (at : VirtualLocalTime) → Frame
fup_of t d counter from at =
    fup (fup_values d.settings d.number counter (ovs_of from at t) (whole_of from at t).1)

-- ---- what a call at t may do to a record and to what was sent in its domain, the newest first; g is the time that
-- is noted
module _ (t : VirtualLocalTime) (g : GlobalTime) where
  abbrev pub sent_as : DataIds → Frame → Sent
  sent_as ids f = record { bytes = bytes_of ids f; at = t; time = g }

  pub data Moves : Domain → List Sent → Domain → List Sent → Type 0 where
    stays :
        (d e : Domain) (l : List Sent) → e.settings ≡ d.settings → e.sending ≡ d.sending →
        e.next_counter ≡ d.next_counter → Moves d l e l
    sends :
        (d e : Domain) (l m : List Sent) (b : TimeBase) →
        DueAt d.settings.role d.settings.period d.base d.sending t b →
        Moves (sent_of d (time_at b t).0 (time_at b t).1 t).domain (sent_as d.settings.ids (sync_of t d b) ∷ l) e m →
        Moves d l e m
    follows :
        (d : Domain) (l : List Sent) (counter : ℕ) (from : GlobalTime) (at : VirtualLocalTime) →
        OpenFor d.settings.confirmation_time d.sending t counter from at → ovs_of from at t ≤ 3 →
        at.0 ≤ t.0 →
        Moves d l (followed_of d counter (ovs_of from at t) (whole_of from at t).1 at).domain
        (sent_as d.settings.ids (fup_of t d counter from at) ∷ l)

  unmoved : (d e : Domain) (l : List Sent) → e ≡ d → Moves d l e l
  unmoved d e l p = rw p (stays d d l refl refl refl)

module _ (i : ℕ) (below : i < places) (t : VirtualLocalTime) (g : GlobalTime) where
  -- ---- a frame of the domain is noted, another's is not

  one_of :
      (ids : DataIds) (f : Frame) (rest : List (List ℕ)) (l : List Sent) → domain_in f ≡ i →
      noted i t g (bytes_of ids f ∷ rest) l ≡ noted i t g rest (sent_as t g ids f ∷ l)
  one_of ids f rest l e = rw (eq-eqb (addressed_by (bytes_of ids f)) i (addressed ids f (omega arith) ∙ e))

  none_of :
      (ids : DataIds) (f : Frame) (rest : List (List ℕ)) (l : List Sent) → domain_in f < places → (domain_in f ≡ i → ⊥) →
      noted i t g (bytes_of ids f ∷ rest) l ≡ noted i t g rest l
  none_of ids f rest l h e = rw (ne_eqb (addressed_by (bytes_of ids f)) i (λ q. e (sym (addressed ids f h) ∙ q)))

  -- ---- a turn of the main cycle

  turn_here :
      (may : Bool) (d e : Domain) (rest : List (List ℕ)) (l : List Sent) → d.number ≡ i →
      ((m : List Sent) → Moves t g (turn_of may d t).domain m e (noted i t g rest m)) →
      Moves t g d l e (noted i t g (frames_by (turn_of may d t).answer d.settings.ids ++ rest) l)
  turn_here false d e rest l n next = next l
  turn_here true d e rest l n next =
      by_due
      (λ (due : Option Due).
      ((m : List Sent) → Moves t g (send_as due d t).domain m e (noted i t g rest m)) →
      Moves t g d l e (noted i t g (frames_by (send_as due d t).answer d.settings.ids ++ rest) l))
      d.settings.role d.settings.period d.base d.sending t
      (λ next. next l)
      (λ b told next.
      rw (one_of d.settings.ids (sync_of t d b) rest l n)
      (sends d e l _ b told (next (sent_as t g d.settings.ids (sync_of t d b) ∷ l))))
      next

  turn_there :
      (may : Bool) (d : Domain) (rest : List (List ℕ)) (l : List Sent) → d.number < places → (d.number ≡ i → ⊥) →
      noted i t g (frames_by (turn_of may d t).answer d.settings.ids ++ rest) l ≡ noted i t g rest l
  turn_there false d rest l h n = refl
  turn_there true d rest l h n =
      by_due
      (λ (due : Option Due).
      noted i t g (frames_by (send_as due d t).answer d.settings.ids ++ rest) l ≡ noted i t g rest l)
      d.settings.role d.settings.period d.base d.sending t refl
      (λ b told. none_of d.settings.ids (sync_of t d b) rest l h n)

  goes_moves :
      (k at sent most : ℕ) (ds : List Domain) (next : ℕ) (l : List Sent) → at < places → AllGood t ds →
      Moves t g (record_at ds i) l (record_at (goes k at sent most t ds next).domains i)
      (noted i t g (goes k at sent most t ds next).frames l)
  unfolding goes
  goes_moves zero at sent most ds next l a good = unmoved t g (record_at ds i) (record_at ds i) l refl
  goes_moves (suc k) at sent most ds next l a good =
      let d = record_at ds at in
      let s = turn_of (ltb sent most) d t in
      let number = (good.records at a).number in
      let gone =
      goes k (next_place places at) (sent_after s.answer sent) most t (put ds at s.domain)
      (next_after s.answer at next)
      in
      let e = record_at gone.domains i in
      let m = noted i t g (frames_by s.answer d.settings.ids ++ gone.frames) l in
      placed
      (λ (x : Domain).
      ((l : List Sent) → Moves t g x l e (noted i t g gone.frames l)) → Moves t g (record_at ds i) l e m)
      ds at i s.domain (omega (arith, good.sixteen))
      (λ same rest.
      subst (λ (x : Domain). Moves t g x l e m) (ap (record_at ds) same)
      (turn_here (ltb sent most) d e gone.frames l (number ∙ same) rest))
      (λ apart rest.
      rw (turn_there (ltb sent most) d gone.frames l (omega (arith, number)) (λ q. apart (sym number ∙ q))) (rest l))
      (λ l.
      goes_moves k (next_place places at) (sent_after s.answer sent) most (put ds at s.domain)
      (next_after s.answer at next) l (omega arith)
      (stored_good t ds at s.domain a good (turn_good (ltb sent most) at t d (good.records at a))))

-- ---- a call

-- a master takes no frame
frame_refused :
    (r : Result Frame NoFrame) (own : ℕ) (role : Role) (d : Domain) (kept t : VirtualLocalTime) (bytes : List ℕ) → role ≡ Master →
    (frame_call_as (read_for r own role) d kept t bytes).domain ≡ d
frame_refused (Err LengthNot8) own role d kept t bytes e = refl
frame_refused (Err NoSuchType) own role d kept t bytes e = refl
frame_refused (Ok values) own role d kept t bytes e = rw (e, and-false (eqb (domain_in values) own))

module _ (n : Node) (good : Good n) (i : ℕ) (below : i < places)
    (role : (record_at n.domains i).settings.role ≡ Master)
    (g : GlobalTime) (l : List Sent) where
  abbrev d : Domain
  d = record_at n.domains i

  there : i < length n.domains
  there = omega (arith, good.sixteen)

  as_it_was : (t : VirtualLocalTime) → Moves t g d l d l
  as_it_was t = stays d d l refl refl refl

  -- ---- a frame
  frame_moves : (t : VirtualLocalTime) (bytes : List ℕ) → Moves t g d l (frame_call_of d n.kept t bytes).domain l
  frame_moves t bytes =
      unmoved t g d _ l
      (either (λ (a : Outcome Frame). (frame_call_as a d n.kept t bytes).domain ≡ d) (is_good_reading n.kept t)
      (frame_refused (read_of bytes) d.number d.settings.role d n.kept t bytes role) refl)

  -- ---- a set
  set_moves :
      (t : VirtualLocalTime) (asked s ns : ℕ) → Moves t g d l (set_call_of d n.kept asked t s ns).domain l
  set_moves t asked s ns =
      by_admission (λ (a : Outcome ⊤). Moves t g d l (set_call_as a d n.kept t s ns).domain l) n.kept t
      d.number d.settings.role asked master
      (λ tested.
      either (λ (x : DomainStep (Outcome ⊤)). Moves t g d l (set_stepped x n.kept t).domain l) (leb ns 999999999)
      (stays d _ l refl refl refl) (as_it_was t))
      (as_it_was t) (as_it_was t)

  -- ---- a main cycle
  module _ (t : VirtualLocalTime) (out : List ℕ) where
    abbrev CycleMoves : NodeStep (Outcome ℕ) → Type 0
    CycleMoves r =
        Moves t g d l (record_at r.node.domains i)
        (noted i t g (eights (cycle_count r.answer) (cycle_bytes r.answer n t out)) l)

    cycle_moves : CycleMoves (node_cycle_of n t (length out))
    cycle_moves =
        either_told CycleMoves (is_good_reading n.kept t)
        (λ e.
        either_told CycleMoves (is_room_for n (length out))
        (λ room.
        rw (given_here n t out room)
        (goes_moves i below t g places (n.round % places) 0 n.syncs_per_cycle n.domains n.round l
        (omega arith)
        (all_later n.kept t n.domains (good_reading n.kept t e).0
        (record { sixteen = good.sixteen; records = good.records }))))
        (λ e. as_it_was t))
        (λ e. as_it_was t)

  -- ---- a confirmation, of this domain or another
  module _ (asked : ℕ) (t : VirtualLocalTime) (counter : ℕ) (out : List ℕ) where
    abbrev c : Domain
    c = record_at n.domains (asked % places)

    abbrev ConfirmMoves : DomainCall (Outcome Fup) → Type 0
    ConfirmMoves r =
        Moves t g d l (record_at (put n.domains (asked % places) r.domain) i)
        (noted i t g
        (given_by (answers (outcome_number r.answer) (confirm_bytes r.answer c.settings.ids out))) l)

    kept_here : Moves t g d l (record_at (put n.domains (asked % places) c) i) l
    kept_here =
        unmoved t g d _ l (ap (λ (ds : List Domain). record_at ds i) (set-get_or n.domains (asked % places) _))

    abbrev Stepped : Outcome Follow → Type 0
    Stepped f = ConfirmMoves (confirm_stepped (confirm_as f c counter) n.kept t)

    followed :
        (from : GlobalTime) (at : VirtualLocalTime) →
        OpenFor c.settings.confirmation_time c.sending t counter from at → ovs_of from at t ≤ 3 →
        at.0 ≤ t.0 → Stepped (Ok (record { ovs = ovs_of from at t; nanoseconds = (whole_of from at t).1; sent_at = at }))
    followed from at told few late =
        let after = (followed_of c counter (ovs_of from at t) (whole_of from at t).1 at).domain in
        let ids = c.settings.ids in
        let f = fup_of t c counter from at in
        let number = (good.records (asked % places) (omega arith)).number in
        let m = noted i t g (bytes_of ids f ∷ []) l in
        rw (take_at (bytes_of ids f) (drop 8 out) 8 (bytes_length ids f))
        (placed (λ (x : Domain). Moves t g d l x m) n.domains (asked % places) i after there
        (λ same.
        rw (one_of i below t g ids f [] l (number ∙ same))
        (subst (λ (x : Domain). Moves t g x l after (sent_as t g ids f ∷ l)) (ap (record_at n.domains) same)
        (follows c l counter from at told few late)))
        (λ apart.
        rw (none_of i below t g ids f [] l (omega (arith, number)) (λ q. apart (sym number ∙ q)))
        (as_it_was t)))

    confirm_moves : ConfirmMoves (confirm_call_of c n.kept asked t counter (length out))
    confirm_moves =
        by_admission (λ (a : Outcome ⊤). ConfirmMoves (confirm_call_as a c n.kept t counter (length out))) n.kept t
        c.number c.settings.role asked master
        (λ tested.
        by_follow Stepped c.settings.confirmation_time c.sending t counter (leb 8 (length out)) kept_here
        kept_here
        (λ from at told has_room.
        let is = master_admitted c.settings.role tested.in_role in
        let record_good = good.records (asked % places) (omega arith) in
        let before = (sent_within_lem (asked % places) n.kept c record_good _ told.held).5 in
        let few = ovs_here (asked % places) n.kept c record_good is t counter from at told in
        followed from at told few (omega (arith, tested.not_before))))
        kept_here kept_here

  -- ---- any call
  pub master_moves :
      (x : Call) →
      Moves (reading_of x) g (record_at n.domains i) l (record_at (node_after n x).domains i)
      (noted i (reading_of x) g (given_by (answer_to n x)) l)
  master_moves (frame t bytes) =
      placed (λ (x : Domain). Moves t g d l x l) n.domains (addressed_by bytes) i _ there
      (λ same. rw same (frame_moves t bytes)) (λ apart. as_it_was t)
  master_moves (read asked t) = as_it_was t
  master_moves (set asked t s ns) =
      placed (λ (x : Domain). Moves t g d l x l) n.domains (asked % places) i _ there
      (λ same. rw same (set_moves t asked s ns)) (λ apart. as_it_was t)
  master_moves (cycle t out) = cycle_moves t out
  master_moves (confirm asked t counter out) = confirm_moves asked t counter out
