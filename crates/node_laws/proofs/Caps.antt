-- The caps of the calls' definitions are the identity on every reachable node. No contract cites this file.
--   jump_leads     of two counters below 16, the jump is the one number below 16 that leads from one to the other
--   held_before    on a good record, a reading that it holds is not after the kept one
--   joined_moved   and where a FUP joins the open pair of a base that is set, D is the difference itself
--   frame_moved    so that a frame that is answered by a D is answered by it
--   shown_exact    the time that a read shows is the base's plus t minus its reading
--   sent_exact     and so is that of a SYNC
--   caps_exact     each cap, for every reachable node
--   bench_span     the hypotheses can be met: the bench's slave holds a reading, which is not after the kept one
--   bench_answer   and after one more SYNC its FUP is answered by a D
--   bench_moved    which is the difference itself
-- Assumes nothing.
use Rattle.std.specs.Prelude.{Err, None, Ok, Option, Result, Some, ⊤}
use Prim.Native.Nat.{ℕ, ◌+◌, ◌-◌, ◌%◌, ◌≤◌, ◌<◌}
use mathlib.Core.Path.{◌≡◌, refl, sym, ap, ◌∙◌, subst}
use mathlib.Core.Bool.{true}
use mathlib.Core.Logic.{⊎_elim}
use mathlib.Core.List.{List, [], ◌∷◌}
use native.Mathlib.Omega.{arith}
use native.Mathlib.Nat.{add-mod-mod, add-mod_right, mod-eq_of_lt}
use lib.Dec.{eqb}
use lib.IntN.{ℤ, pos}
use lib.ListN.{length, get_or}
use borrow.Author.Tests.{leb-true, eqb-true}
use Rattle.promise.proofs.Tests.{either, either_told, both}
use Rattle.promise.proofs.Lists.{get_d_any}
use Rattle.clock.specs.declared.reading.VirtualLocalTime.{VirtualLocalTime}
use Rattle.clock.specs.declared.time.GlobalTime.{GlobalTime}
use Rattle.clock.specs.declared.base.TimeBase.{TimeBase}
use Rattle.clock.specs.Reading.{is_reading}
use Rattle.clock.specs.Time.{IsReceived, IsRead}
use Rattle.clock.specs.Base.{time_at}
use Rattle.clock.proofs.Laws.{time_exact, read_bound}
use Rattle.clock.proofs.difference.Laws.{difference_read}
use Rattle.frame.specs.declared.values.Sync.{Sync}
use Rattle.frame.specs.declared.values.Fup.{Fup}
use Rattle.frame.specs.declared.values.Frame.{Frame}
use Rattle.frame.specs.declared.values.Frame.TheVariants.{Sync as sync, Fup as fup}
use Rattle.frame.specs.ByteTwo.{counters}
use Rattle.frame.specs.Types.{type_of}
use Rattle.frame.specs.Values.{domain_in}
use Rattle.frame_read.specs.Read.{read_of, values_of}
use Rattle.frame_check.specs.Check.{is_taken}
use Rattle.frame_laws.proofs.Laws.{byte_below}
use Rattle.refusal.specs.declared.Refusal.{Refusal}
use Rattle.settings.specs.declared.domain_settings.Role.{Role}
use Rattle.settings.specs.declared.domain_settings.Role.TheVariants.{Absent, Slave, Master}
use Rattle.settings.specs.Node.{places}
use Rattle.admission.specs.declared.Needed.TheVariants.{Slave as slave, Either}
use Rattle.admission.specs.Reading.{is_good_reading}
use Rattle.admission.specs.Admission.{is_in, is_for}
use Rattle.admission.specs.FrameAdmission.{read_for}
use Rattle.admission.proofs.Laws.{Tested, good_reading, by_admission, slave_admitted}
use Rattle.domain.specs.declared.Domain.{Domain}
use Rattle.domain.specs.declared.Pair.{Pair}
use Rattle.domain.specs.declared.LastSync.TheVariants.{Seen}
use Rattle.domain.specs.Records.{record_at}
use Rattle.slave_counter.specs.Counter.{jump_of}
use Rattle.slave_counter.proofs.Laws.{jump_exact}
use Rattle.slave_pair.proofs.Laws.{Joins, by_joined}
use Rattle.slave_answer.specs.Answer.{refused_of}
use Rattle.slave_update.specs.Update.{new_base, moved_by}
use Rattle.slave_update.proofs.Laws.{received_bound}
use Rattle.slave_counter.specs.declared.RowCheck.{RowCheck}
use Rattle.slave_counter.specs.declared.RowCheck.TheVariants.{NotGood, Joins as joins_row, Complete}
use Rattle.slave_sync.specs.Sync.{check_for, sync_as}
use Rattle.slave_fup.specs.Fup.{update_in, fup_as}
use Rattle.slave_frame.specs.Step.{kind_of}
use Rattle.master_rules.proofs.Laws.{by_due}
use Rattle.master_send.specs.Send.{due_in}
use Rattle.call_frame.specs.FrameCall.{frame_call_as, frame_call_of}
use Rattle.call_read.specs.declared.Shown.{Shown}
use Rattle.call_read.specs.ReadCall.{read_as, read_call_as, read_call_of}
use Rattle.round.specs.Round.{goes}
use Rattle.node.specs.declared.Node.{Node}
use Rattle.node.specs.New.{new_of}
use Rattle.node.specs.Frame.{addressed_by, node_frame_of}
use Rattle.node_call.specs.Calls.{Call, frame, node_after, node_after_all}
use Rattle.bench_settings.specs.Bench.{bench_with}
use Rattle.node_laws.specs.Reachable.{Reachable, after}
use Rattle.node_laws.specs.Good.{LastWithin, PairWithin, BaseFirst, SlaveGood, RoleGood, RecordGood}
use Rattle.node_laws.specs.Bounds.{TimeExact}
use Rattle.node_laws.specs.Cases.{bench_calls}
use Rattle.node_laws.specs.Caps.{
  HeldAt,
  of_base,
  of_last,
  of_pair,
  of_open,
  of_confirmed,
  Passes,
  SpanExact,
  Leads,
  JumpExact,
  TimeOf,
  MovedExact,
  Moves,
  Listed,
  CapsExact,
}
use Rattle.node_laws.proofs.Bounds.{
  base_within,
  base_before,
  time_exact_here,
  sent_within_lem,
  next_counter_within,
}
use Rattle.node_laws.proofs.Slave.{pair_before}
use Rattle.node_laws.proofs.Reachable.{reachable_good}
use Rattle.node_laws.proofs.Laws.{stored_at}
use Rattle.node_laws.proofs.Witness.{is_call_lem, bench_reached, bench_held}
use Rattle.domain.specs.declared.DomainStep.{DomainStep}
use Rattle.frame.specs.declared.types.FrameType.{FrameType}
use Rattle.frame.specs.declared.types.FrameType.TheVariants.{PlainFup, PlainSync, SecuredFup, SecuredSync}
use Rattle.frame_read.specs.declared.NoFrame.{NoFrame}
use Rattle.frame_read.specs.declared.NoFrame.TheVariants.{LengthNot8, NoSuchType}
use Rattle.master_rules.specs.declared.due.Due.{Due}
use Rattle.refusal.specs.Numbers.{Outcome}
use Rattle.slave_answer.specs.declared.Taken.{Taken}
use Rattle.slave_answer.specs.declared.Taken.TheVariants.{Updated}

-- ---- the parts of the time of a domain that is due
abbrev seconds_due : Option Due → ℕ
seconds_due None = 0
seconds_due (Some due) = due.seconds

abbrev nanoseconds_due : Option Due → ℕ
nanoseconds_due None = 0
nanoseconds_due (Some due) = due.nanoseconds

-- ---- what a frame carries: a counter of four bits, and an OVS of two

abbrev Carried : Result Frame NoFrame → Type 0
Carried (Err LengthNot8) = Unit {0}
Carried (Err NoSuchType) = Unit {0}
Carried (Ok (sync s)) = s.counter < counters
Carried (Ok (fup f)) = f.ovs ≤ 3

values_carried : (type : Option FrameType) (bytes : List ℕ) → Carried (values_of type bytes)
values_carried (Some PlainSync) bytes = omega arith
values_carried (Some SecuredSync) bytes = omega arith
values_carried (Some PlainFup) bytes = omega arith
values_carried (Some SecuredFup) bytes = omega arith
values_carried None bytes = tt

read_carried : (bytes : List ℕ) → Carried (read_of bytes)
read_carried bytes = either Carried (eqb (length bytes) 8) (values_carried (type_of (get_or bytes 0 0)) bytes) tt

-- ---- the jump

arrives :
    (last new : ℕ) → last < counters → new < counters → (last + (new + counters - last) % counters) % counters ≡ new
arrives last new p q =
    let back : last + (new + counters - last) ≡ new + counters = omega arith in
    add-mod-mod last (new + counters - last) counters
    ∙ ap (λ (x : ℕ). x % counters) back
    ∙ add-mod_right new counters
    ∙ mod-eq_of_lt q

once :
    (last one other : ℕ) → one < counters → other < counters →
    (last + one) % counters ≡ (last + other) % counters → one ≡ other
once last one other p q e = omega arith

pub jump_leads : (last new : ℕ) → last < counters → new < counters → JumpExact last new
jump_leads last new p q =
    let arrived : Leads last new (jump_of last new) =
    record { below = omega arith; new_one = rw (jump_exact last new p q) (arrives last new p q) }
    in
    record {
      leads = arrived;
      only = λ jump h. once last jump _ (omega arith) (omega arith) (h.new_one ∙ sym arrived.new_one);
    }

-- ---- what a good record holds, whatever its role

last_as :
    (r : Role) (kept : VirtualLocalTime) (d : Domain) → RoleGood r kept d →
    LastWithin kept d.settings.hysteresis d.last
last_as Absent kept d g = rw (ap (λ (x : Domain). x.last) g) tt
last_as Slave kept d g = g.last
last_as Master kept d g = rw g.unknown tt

pair_as :
    (r : Role) (kept : VirtualLocalTime) (d : Domain) → RoleGood r kept d →
    PairWithin kept d.settings.follow_up_time d.settings.hysteresis d.last d.pairing
pair_as Absent kept d g = rw (ap (λ (x : Domain). x.pairing) g) tt
pair_as Slave kept d g = g.pair
pair_as Master kept d g = rw g.waiting tt

module _ (i : ℕ) (kept : VirtualLocalTime) (d : Domain) (g : RecordGood i kept d) where
  last_here : LastWithin kept d.settings.hysteresis d.last
  last_here = last_as d.settings.role kept d g.role

  pub pair_here :
      (p : Pair) → d.pairing ≡ Some p →
      PairWithin kept d.settings.follow_up_time d.settings.hysteresis d.last (Some p)
  pair_here p e =
      subst (PairWithin kept d.settings.follow_up_time d.settings.hysteresis d.last) e
      (pair_as d.settings.role kept d g.role)

  seen_here :
      (counter row : ℕ) (at : VirtualLocalTime) → d.last ≡ Seen counter row at →
      LastWithin kept d.settings.hysteresis (Seen counter row at)
  seen_here counter row at e = subst (LastWithin kept d.settings.hysteresis) e last_here

  -- the open pair is the last SYNC's, or older than F
  paired_before : (p : Pair) → d.pairing ≡ Some p → p.at.0 ≤ kept.0
  paired_before p e =
      ⊎_elim (λ own. pair_before kept d.settings.hysteresis d.last p own last_here)
      (λ old. omega (arith, old)) (pair_here p e).1

-- ---- spans

module _ (i : ℕ) (kept : VirtualLocalTime) (d : Domain) (g : RecordGood i kept d)
    (in_range : kept.0 ≤ 1000000000000000000) where
  pub held_before : (at : VirtualLocalTime) → HeldAt d at → at.0 ≤ kept.0
  held_before at (of_base b e) = base_before i kept d g b e
  held_before at (of_last counter row from e) = (seen_here i kept d g counter row from e).2
  held_before at (of_pair p e) = paired_before i kept d g p e
  held_before at (of_open counter seconds nanoseconds from e) = (sent_within_lem i kept d g _ e).5
  held_before at (of_confirmed from e) = (sent_within_lem i kept d g _ e).2

  -- ---- D

  module _ (is : d.settings.role ≡ Slave) where
    as_slave : SlaveGood kept d
    as_slave = subst (λ (r : Role). RoleGood r kept d) is g.role

    pub joined_moved :
        (old : TimeBase) (p : Pair) (f : Fup) → d.base ≡ Some old → d.pairing ≡ Some p → f.ovs ≤ 3 →
        f.nanoseconds ≤ 999999999 → MovedExact old (new_base p f) (moved_by old (new_base p f))
    joined_moved old p f set there ovs ns =
        let at = held_before p.at (of_pair p there) in
        let first : BaseFirst d.pairing (Some old) = subst (BaseFirst d.pairing) set as_slave.first in
        let order : old.at.0 ≤ p.at.0 = subst (λ (q : Option Pair). BaseFirst q (Some old)) there first in
        let received = base_within i kept d g old set in
        let within : p.at.0 ≤ 1000000000000000000 = omega arith in
        let whole = (pair_here i kept d g p there).0 in
        let new : IsReceived (new_base p f).time = received_bound p f (omega arith) ovs ns in
        let read : IsRead (new_base p f).time = record { whole = omega (arith, new.whole); part = new.part } in
        record {
          time = omega (arith, time_exact old p.at received within);
          difference =
              difference_read (new_base p f).time (time_at old p.at) read (read_bound old p.at received within);
        }

  module _ (t : VirtualLocalTime) (bytes : List ℕ) (moved : ℤ) where
    abbrev StepMoves : DomainStep (Outcome Taken) → Type 0
    StepMoves s = s.answer ≡ Ok (Updated moved) → Moves d.base s.domain.base moved

    abbrev CallMoves : Outcome Frame → Type 0
    CallMoves a =
        (frame_call_as a d kept t bytes).answer ≡ Ok (Updated moved) →
        Moves d.base (frame_call_as a d kept t bytes).domain.base moved

    fup_moves :
        d.settings.role ≡ Slave → (f : Fup) → f.ovs ≤ 3 → (p : Pair) →
        Joins d.settings.follow_up_time d.pairing t f p → (h : Option TimeBase) → d.base ≡ h →
        ◌≡◌ {A = Outcome Taken} (Ok (update_in d h (new_base p f)).answer) (Ok (Updated moved)) →
        Moves d.base (Some (new_base p f)) moved
    fup_moves is f ovs p told None was e = let no : ◌≡◌ {A = ℕ} 0 1 = cc in absurd (omega arith)
    fup_moves is f ovs p told (Some old) was e =
        let same : moved_by old (new_base p f) ≡ moved = cc in
        record {
          old = old;
          new = new_base p f;
          was = was;
          is = refl;
          exact =
              subst (MovedExact old (new_base p f)) same
              (joined_moved is old p f was told.held ovs told.in_range);
        }

    refused_step : (refusal : Refusal) → StepMoves (refused_of d refusal)
    refused_step refusal e = let no : ◌≡◌ {A = ℕ} 0 1 = cc in absurd (omega arith)

    sync_moves : (s : Sync) (k : RowCheck) → StepMoves (sync_as k d t s)
    sync_moves s (NotGood row) e = let no : ◌≡◌ {A = ℕ} 0 1 = cc in absurd (omega arith)
    sync_moves s (joins_row row) e = let no : ◌≡◌ {A = ℕ} 0 1 = cc in absurd (omega arith)
    sync_moves s (Complete row) e = let no : ◌≡◌ {A = ℕ} 0 1 = cc in absurd (omega arith)

    kind_moves : d.settings.role ≡ Slave → (values : Frame) → Carried (Ok values) → StepMoves (kind_of d t values)
    kind_moves is (sync s) c = sync_moves s (check_for d t s)
    kind_moves is (fup f) c =
        by_joined (λ (j : Outcome Pair). StepMoves (fup_as j d f)) d.settings.follow_up_time d.pairing t f
        (refused_step _) (refused_step _) (refused_step _) (λ p told. fup_moves is f c p told d.base refl)

    refused_moves : (refusal : Refusal) → CallMoves (Err refusal)
    refused_moves refusal e = let no : ◌≡◌ {A = ℕ} 0 1 = cc in absurd (omega arith)

    read_moves : (r : Result Frame NoFrame) → Carried r → CallMoves (read_for r d.number d.settings.role)
    read_moves (Err LengthNot8) c = refused_moves _
    read_moves (Err NoSuchType) c = refused_moves _
    read_moves (Ok values) c =
        either_told CallMoves (is_for d.number d.settings.role (domain_in values) slave)
        (λ for.
        let is =
        slave_admitted d.settings.role
        (both (eqb (domain_in values) d.number) (is_in d.settings.role slave) for).1
        in
        either StepMoves (is_taken d.settings.mode d.settings.ids bytes) (kind_moves is values c)
        (refused_step _))
        (λ e. refused_moves _)

    pub frame_moved :
        (frame_call_of d kept t bytes).answer ≡ Ok (Updated moved) →
        Moves d.base (frame_call_of d kept t bytes).domain.base moved
    frame_moved =
        either CallMoves (is_good_reading kept t) (read_moves (read_of bytes) (read_carried bytes)) (refused_moves _)

-- ---- times

module _ (i : ℕ) (kept : VirtualLocalTime) (d : Domain) (g : RecordGood i kept d) (t : VirtualLocalTime) where
  refused_shows :
      (refusal : Refusal) (shown : Shown) → Err refusal ≡ Ok shown → TimeOf d.base t shown.time
  refused_shows refusal shown e = let no : ◌≡◌ {A = ℕ} 0 1 = cc in absurd (omega arith)

  pub shown_exact :
      (asked : ℕ) (shown : Shown) → read_call_of d kept asked t ≡ Ok shown → TimeOf d.base t shown.time
  shown_exact asked shown =
      by_admission (λ (a : Outcome ⊤). read_call_as a d t ≡ Ok shown → TimeOf d.base t shown.time) kept t
      d.number d.settings.role asked Either (λ tested. by_base tested d.base refl)
      (refused_shows _ shown) (refused_shows _ shown)
    where
      by_base :
          Tested kept t d.settings.role Either → (h : Option TimeBase) → d.base ≡ h → read_as h d t ≡ Ok shown →
          TimeOf d.base t shown.time
      by_base tested None is e = refused_shows _ shown e
      by_base tested (Some b) is e =
          let same : time_at b t ≡ shown.time = cc in
          record {
            base = b;
            is = is;
            exact =
                subst (λ (g : GlobalTime). TimeExact b.time b.at g t) same
                (time_exact_here i kept d g b t is tested.not_before tested.in_range);
          }

  pub sent_exact :
      kept.0 ≤ t.0 → t.0 ≤ 1000000000000000000 → (seconds nanoseconds : ℕ) →
      due_in d t ≡ Some (record { seconds = seconds; nanoseconds = nanoseconds }) → TimeOf d.base t (record { 0 = seconds; 1 = nanoseconds })
  sent_exact le in_range seconds nanoseconds =
      by_due
      (λ (due : Option Due). due ≡ Some (record { seconds = seconds; nanoseconds = nanoseconds }) → TimeOf d.base t (record { 0 = seconds; 1 = nanoseconds }))
      d.settings.role d.settings.period d.base d.sending t
      (λ e. let no : ◌≡◌ {A = ℕ} 0 1 = cc in absurd (omega arith))
      (λ b told e.
      let first : (time_at b t).0 ≡ seconds = ap seconds_due e in
      let second : (time_at b t).1 ≡ nanoseconds = ap nanoseconds_due e in
      record {
        base = b;
        is = told.held;
        exact = omega (arith, first, second, time_exact_here i kept d g b t told.held le in_range);
      })

-- ---- every reachable node

not_before : (n : Node) (t : VirtualLocalTime) → Passes n t → n.kept.0 ≤ t.0
not_before n t passes = let range = both (is_reading t) _ passes in omega (arith, leb-true)

listed : (list : List ℕ) → eqb (length list) counters ≡ true → Listed list
listed list e counter other h =
    let sixteen : length list ≡ counters = eqb-true _ _ e in
    rw (mod-eq_of_lt h) (get_d_any list counter 0 other (omega arith))

pub caps_exact : (n : Node) → Reachable n → CapsExact n
caps_exact n r =
    let good = reachable_good n r in
    record {
      spans =
          λ i h t at passes held.
          omega
          (arith, not_before n t passes, held_before i n.kept _ (good.records i h) good.kept at held);
      jumps =
          λ i h last row at seen bytes s e.
          jump_leads last s.counter (seen_here i n.kept _ (good.records i h) last row at seen).0
          (subst Carried e (read_carried bytes));
      joined =
          λ i h is old p set there bytes f e ns.
          joined_moved i n.kept _ (good.records i h) good.kept is old p f set there
          (subst Carried e (read_carried bytes)) ns;
      moved =
          λ t bytes moved e.
          let at = addressed_by bytes in
          rw (stored_at n at at _ (node_frame_of n t bytes).node.kept refl (rw good.sixteen (omega arith)))
          (frame_moved at n.kept _ (good.records at (omega arith)) good.kept t bytes moved e);
      shown =
          λ domain t shown e.
          shown_exact (domain % places) n.kept _ (good.records (domain % places) (omega arith)) t domain shown e;
      sent =
          λ i h t passes seconds nanoseconds e.
          let range = good_reading n.kept t passes in
          sent_exact i n.kept _ (good.records i h) t range.0 range.1 seconds nanoseconds e;
      counter = λ i h. mod-eq_of_lt (omega (arith, next_counter_within i n.kept _ (good.records i h)));
      round = mod-eq_of_lt (omega (arith, good.round));
      sixteen = good.sixteen;
      place = λ bytes are. mod-eq_of_lt (omega (arith, byte_below bytes 2 are));
      ids =
          λ i h.
          let ids = (record_at n.domains i).settings.ids in
          let are = both _ _ (good.records i h).ids in
          (listed ids.sync are.0, listed ids.fup are.1);
    }

-- ---- the hypotheses can be met

abbrev bench : Node
bench = node_after_all (new_of (bench_with 2)).node bench_calls

-- the slave's base, at the reading that is kept
pub bench_span : SpanExact (record { 0 = 5000000000 }) bench.kept
unfolding goes
bench_span = (caps_exact bench bench_reached).spans 1 (omega arith) bench.kept _ refl (of_base _ bench_held)

-- a SYNC of 3,603 s with counter 2 at 8 s, and its FUP of 200 ns 10 ms later: D is 100 ns
abbrev next_sync : Call
next_sync = frame (record { 0 = 8000000000 }) (0x10 ∷ 0 ∷ 0x12 ∷ 0 ∷ 0 ∷ 0 ∷ 0x0E ∷ 0x13 ∷ [])

abbrev paired : Node
paired = node_after bench next_sync

abbrev next_fup : List ℕ
next_fup = 0x18 ∷ 0 ∷ 0x12 ∷ 0 ∷ 0 ∷ 0 ∷ 0 ∷ 200 ∷ []

pub bench_answer : (node_frame_of paired (record { 0 = 8010000000 }) next_fup).answer ≡ Ok (Updated (pos 100))
unfolding goes
bench_answer = refl

pub bench_moved :
    Moves (record_at paired.domains 1).base
    (record_at (node_frame_of paired (record { 0 = 8010000000 }) next_fup).node.domains 1).base (pos 100)
bench_moved =
    (caps_exact paired (after bench bench_reached next_sync (is_call_lem next_sync refl))).moved
    (record { 0 = 8010000000 }) next_fup (pos 100) bench_answer
