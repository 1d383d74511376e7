-- What a call of the slave's node does to the record of the domain. No contract cites this file.
--   slave_is_good    the slave's node is good
--   slave_settings   its record of the domain holds the settings given
--   heard_as         a heard frame is read, and of the domain (`HeardAs`)
--   unheard_keeps    a call that hands in no heard frame leaves the record
--   heard_step       a heard frame is refused by 1, or its record makes the step (`Step`)
--   heard_in_time    in range and in order it makes the step, and answers the step's number
--   kept_before      the kept reading is not after a reading that the scale allows
-- Assumes nothing.
use Rattle.std.specs.Prelude.{Err, Ok, Result, ⊤}
use Prim.Native.Nat.{ℕ, ◌%◌, ◌≤◌, ◌<◌}
use mathlib.Core.Path.{◌≡◌, refl, sym, ap, subst, ◌∙◌}
use mathlib.Core.Bool.{Bool, true, false, cond, ◌&&◌}
use mathlib.Core.List.{List, [], ◌∷◌}
use native.Mathlib.Nat.{mod-eq_of_lt}
use native.Mathlib.Omega.{arith}
use lib.Dec.{leb, eqb}
use lib.ListN.{length}
use lib.Seq.{get_or-set_same}
use borrow.Author.Tests.{eqb-true, le-leb}
use Rattle.settings.specs.Node.{places}
use Rattle.promise.proofs.Tests.{either, either_told, both}
use Rattle.clock.specs.declared.reading.VirtualLocalTime.{VirtualLocalTime}
use Rattle.clock.specs.Reading.{is_reading}
use Rattle.frame.specs.declared.values.Sync.{Sync}
use Rattle.frame.specs.declared.values.Fup.{Fup}
use Rattle.frame.specs.declared.values.Frame.{Frame}
use Rattle.frame.specs.declared.values.Frame.TheVariants.{Sync as sync, Fup as fup}
use Rattle.frame_read.specs.Read.{read_of}
use Rattle.frame_read.proofs.Laws.{Names, read_names}
use Rattle.frame_check.specs.Check.{is_taken}
use Rattle.settings.specs.declared.domain_settings.DomainSettings.{DomainSettings}
use Rattle.settings.specs.declared.domain_settings.Role.{Role}
use Rattle.settings.specs.declared.domain_settings.Role.TheVariants.{Slave}
use Rattle.settings.specs.Domain.{slave_held, held_as}
use Rattle.admission.specs.declared.Needed.TheVariants.{Slave as slave, Master as master}
use Rattle.admission.specs.Reading.{is_good_reading}
use Rattle.admission.specs.Admission.{is_in, is_for, admitted_of}
use Rattle.admission.proofs.Laws.{good_reading, by_admission}
use Rattle.frame.specs.Values.{domain_in}
use Rattle.admission.specs.FrameAdmission.{read_for, frame_admitted}
use Rattle.domain.specs.declared.Domain.{Domain}
use Rattle.slave_pair.specs.Join.{joined_of}
use Rattle.slave_counter.specs.declared.RowCheck.{RowCheck}
use Rattle.slave_counter.specs.declared.RowCheck.TheVariants.{NotGood, Joins, Complete}
use Rattle.slave_sync.specs.Sync.{check_for, sync_as}
use Rattle.slave_fup.specs.Fup.{fup_as}
use Rattle.slave_frame.specs.Step.{kind_of, frame_of}
use Rattle.master_set.specs.Set.{set_of}
use Rattle.master_confirm.specs.Confirm.{confirm_of}
use Rattle.call_frame.specs.FrameCall.{frame_stepped, frame_call_as, frame_call_of}
use Rattle.call_set.specs.SetCall.{set_call_as, set_call_of}
use Rattle.call_confirm.specs.ConfirmCall.{confirm_call_as, confirm_call_of}
use Rattle.domain.specs.Records.{record_at}
use Rattle.node.specs.declared.Node.{Node}
use Rattle.node.specs.New.{new_as}
use Rattle.node.specs.Cycle.{is_room_for}
use Rattle.node.specs.Frame.{addressed_by}
use Rattle.node_call.specs.Calls.{Call, frame, read, set, cycle, confirm, reading_of, node_after, numbered, answer_to}
use Rattle.node_laws.specs.Good.{Good}
use Rattle.node_laws.proofs.Fresh.{new_good}
use Rattle.node_laws.proofs.Reachable.{call_good}
use Rattle.node_laws.proofs.Laws.{other_domains}
use Rattle.history.specs.History.{
  Link,
  slave_settings,
  on_slave,
  at_master,
  at_slave,
  History,
  slave_after,
  slave_record,
  is_read,
  is_heard,
  Heard,
  heard_by,
}
use Rattle.history.specs.Demand.{Linked, AreCalls, now, NeverFall}
use Rattle.history.proofs.Placed.{placed}
use Rattle.history.proofs.Begun.{fresh_record}
use Rattle.domain.specs.declared.DomainCall.{DomainCall}
use Rattle.domain.specs.declared.DomainStep.{DomainStep}
use Rattle.domain.specs.declared.Pair.{Pair}
use Rattle.frame_read.specs.declared.NoFrame.{NoFrame}
use Rattle.frame_read.specs.declared.NoFrame.TheVariants.{LengthNot8, NoSuchType}
use Rattle.node.specs.declared.NodeStep.{NodeStep}
use Rattle.refusal.specs.Numbers.{Outcome, outcome_number}
use Rattle.slave_answer.specs.declared.Taken.{Taken}

-- ---- the slave's node

pub slave_is_good : (k : Link) → Linked k → (h : History) → AreCalls h → Good (slave_after k h)
slave_is_good k l [] a = new_good k.slave l.slaves
slave_is_good k l (at_master c ∷ h) a = slave_is_good k l h a.0
slave_is_good k l (at_slave c ∷ h) a = call_good (slave_after k h) c a.1 (slave_is_good k l h a.0)

-- ---- a call that is no frame for it leaves a slave's record: 4 for set and confirmation

no_master : (r : Role) → r ≡ Slave → is_in r master ≡ true → {P : Type 0} → P
no_master r is e =
    let no : false ≡ true = subst (λ (x : Role). is_in x master ≡ true) is e in
    let no : ◌≡◌ {A = ℕ} 0 1 = cc in
    absurd (omega arith)

not_set :
    (d : Domain) (kept : VirtualLocalTime) (asked : ℕ) (t : VirtualLocalTime) (s ns : ℕ) →
    d.settings.role ≡ Slave → (set_call_of d kept asked t s ns).domain ≡ d
not_set d kept asked t s ns is =
    by_admission (λ (a : Outcome ⊤). (set_call_as a d kept t s ns).domain ≡ d) kept t d.number d.settings.role
    asked master
    (λ tested. no_master d.settings.role is tested.in_role) refl refl

not_followed :
    (d : Domain) (kept : VirtualLocalTime) (asked : ℕ) (t : VirtualLocalTime) (counter length : ℕ) →
    d.settings.role ≡ Slave → (confirm_call_of d kept asked t counter length).domain ≡ d
not_followed d kept asked t counter length is =
    by_admission (λ (a : Outcome ⊤). (confirm_call_as a d kept t counter length).domain ≡ d) kept t d.number
    d.settings.role asked master
    (λ tested. no_master d.settings.role is tested.in_role) refl refl

-- what a frame call gives at its own place
abbrev Framed : (Domain → Type 0) → Domain → (kept : VirtualLocalTime) (i : ℕ) → Call → Type 0
Framed P d kept i (frame t bytes) = addressed_by bytes ≡ i → P (frame_call_of d kept t bytes).domain
Framed P d kept i (read domain t) = Unit {0}
Framed P d kept i (set domain t s ns) = Unit {0}
Framed P d kept i (cycle t out) = Unit {0}
Framed P d kept i (confirm domain t counter out) = Unit {0}

module _ (P : Domain → Type 0) (n : Node) (i : ℕ) (there : i < length n.domains)
    (is : (record_at n.domains i).settings.role ≡ Slave) (old : P (record_at n.domains i)) where
  abbrev was : Domain
  was = record_at n.domains i

  call_does : (c : Call) → Framed P was n.kept i c → P (record_at (node_after n c).domains i)
  call_does (frame t bytes) f =
      placed P n.domains (addressed_by bytes) i _ there
      (λ e. subst (λ (x : ℕ). P (frame_call_of (record_at n.domains x) n.kept t bytes).domain) (sym e) (f e))
      (λ e. old)
  call_does (read domain t) f = old
  call_does (set domain t s ns) f =
      placed P n.domains (domain % places) i _ there
      (λ e.
      subst (λ (x : ℕ). P (set_call_of (record_at n.domains x) n.kept domain t s ns).domain) (sym e)
      (subst P (sym (not_set was n.kept domain t s ns is)) old))
      (λ e. old)
  call_does (cycle t out) f = subst P (sym (other_domains n (cycle t out) i (rw is refl))) old
  call_does (confirm domain t counter out) f =
      placed P n.domains (domain % places) i _ there
      (λ e.
      subst (λ (x : ℕ). P (confirm_call_of (record_at n.domains x) n.kept domain t counter (length out)).domain)
      (sym e)
      (subst P (sym (not_followed was n.kept domain t counter (length out) is)) old))
      (λ e. old)

-- ---- the settings given stay

abbrev Holds : DomainSettings → Domain → Type 0
Holds s d = d.settings ≡ s

module _ (d : Domain) (t : VirtualLocalTime) where
  abbrev StepHolds : DomainStep (Outcome Taken) → Type 0
  StepHolds x = Holds d.settings x.domain

  fup_holds : (j : Outcome Pair) (f : Fup) → StepHolds (fup_as j d f)
  fup_holds (Err refusal) f = refl
  fup_holds (Ok p) f = refl

  sync_holds : (k : RowCheck) (s : Sync) → StepHolds (sync_as k d t s)
  sync_holds (NotGood row) s = refl
  sync_holds (Joins row) s = refl
  sync_holds (Complete row) s = refl

  kind_holds : (values : Frame) → StepHolds (kind_of d t values)
  kind_holds (sync s) = sync_holds (check_for d t s) s
  kind_holds (fup f) = fup_holds (joined_of d.settings.follow_up_time d.pairing t f) f

  call_holds :
      (a : Outcome Frame) (kept : VirtualLocalTime) (bytes : List ℕ) →
      Holds d.settings (frame_call_as a d kept t bytes).domain
  call_holds (Err refusal) kept bytes = refl
  call_holds (Ok values) kept bytes =
      either StepHolds (is_taken d.settings.mode d.settings.ids bytes) (kind_holds values) refl

framed_holds :
    (s : DomainSettings) (d : Domain) (kept : VirtualLocalTime) (i : ℕ) (c : Call) → Holds s d →
    Framed (Holds s) d kept i c
framed_holds s d kept i (frame t bytes) e =
    λ own. call_holds d t (frame_admitted kept t d.number d.settings.role bytes) kept bytes ∙ e
framed_holds s d kept i (read domain t) e = tt
framed_holds s d kept i (set domain t seconds ns) e = tt
framed_holds s d kept i (cycle t out) e = tt
framed_holds s d kept i (confirm domain t counter out) e = tt

slave_there : (k : Link) → Linked k → (h : History) → AreCalls h → k.domain < length (slave_after k h).domains
slave_there k l h a = omega (arith, l.domain, (slave_is_good k l h a).sixteen)

pub slave_settings_lem :
    (k : Link) → Linked k → (h : History) → AreCalls h → (slave_record k h).settings ≡ slave_held (slave_settings k)
slave_settings_lem k l [] a =
    ap (λ (d : Domain). d.settings) (fresh_record k.slave k.domain l.slaves l.good_slave l.domain)
    ∙ ap (λ (r : Role). held_as r (slave_settings k)) l.slave
slave_settings_lem k l (at_master c ∷ h) a = slave_settings_lem k l h a.0
slave_settings_lem k l (at_slave c ∷ h) a =
    let e = slave_settings_lem k l h a.0 in
    let s = slave_held (slave_settings k) in
    call_does (Holds s) (slave_after k h) k.domain (slave_there k l h a.0)
    (ap (λ (x : DomainSettings). x.role) e) e c
    (framed_holds s (slave_record k h) (slave_after k h).kept k.domain c e)

-- ---- a heard frame: tests 2 to 5 of a record, which are those of the link

abbrev hears : Domain → List ℕ → Bool
hears d bytes = is_read (read_of bytes) d.number && is_taken d.settings.mode d.settings.ids bytes

hears_same :
    (k : Link) → Linked k → (h : History) → AreCalls h → (bytes : List ℕ) →
    hears (slave_record k h) bytes ≡ is_heard k bytes
hears_same k l h a bytes =
    rw (slave_settings_lem k l h a, ((slave_is_good k l h a).records k.domain l.domain).number) refl

slave_role : (k : Link) → Linked k → (h : History) → AreCalls h → (slave_record k h).settings.role ≡ Slave
slave_role k l h a = ap (λ (x : DomainSettings). x.role) (slave_settings_lem k l h a)

pub record HeardAs (k : Link) (bytes : List ℕ) : Type 0 where
  pub values : Frame
  pub reads : read_of bytes ≡ Ok values
  pub domain : domain_in values ≡ k.domain

pub heard_as : (k : Link) (bytes : List ℕ) → is_heard k bytes ≡ true → HeardAs k bytes
heard_as k bytes e = go (read_of bytes) refl (both (is_read (read_of bytes) k.domain) _ e).0
  where
    go : (r : Result Frame NoFrame) → read_of bytes ≡ r → is_read r k.domain ≡ true → HeardAs k bytes
    go (Err LengthNot8) same is = let no : ◌≡◌ {A = ℕ} 0 1 = cc in absurd (omega arith)
    go (Err NoSuchType) same is = let no : ◌≡◌ {A = ℕ} 0 1 = cc in absurd (omega arith)
    go (Ok values) same is = record { values = values; reads = same; domain = eqb-true _ _ is }

-- ---- one that is not

module _ (d : Domain) (kept t : VirtualLocalTime) (bytes : List ℕ) where
  abbrev Leaves : Outcome Frame → Type 0
  Leaves a = (frame_call_as a d kept t bytes).domain ≡ d

  read_leaves :
      (r : Result Frame NoFrame) →
      (is_read r d.number && is_taken d.settings.mode d.settings.ids bytes) ≡ false →
      Leaves (read_for r d.number d.settings.role)
  read_leaves (Err LengthNot8) e = refl
  read_leaves (Err NoSuchType) e = refl
  read_leaves (Ok values) e =
      either_told Leaves (is_for d.number d.settings.role (domain_in values) slave)
      (λ for.
      let own = (both (eqb (domain_in values) d.number) (is_in d.settings.role slave) for).0 in
      let bad : is_taken d.settings.mode d.settings.ids bytes ≡ false =
      subst (λ (b : Bool). (b && is_taken d.settings.mode d.settings.ids bytes) ≡ false) own e
      in
      rw bad refl)
      (λ e. refl)

  unheard_leaves : hears d bytes ≡ false → (frame_call_of d kept t bytes).domain ≡ d
  unheard_leaves e = either Leaves (is_good_reading kept t) (read_leaves (read_of bytes) e) refl

none_heard : (b : Bool) (x : Heard) → cond b (x ∷ []) [] ≡ [] → b ≡ false
none_heard true x e = cc
none_heard false x e = refl

module _ (k : Link) (l : Linked k) (h : History) (a : AreCalls h) where
  abbrev Same : Domain → Type 0
  Same d = d ≡ slave_record k h

  framed_same : (c : Call) → heard_by k c ≡ [] → Framed Same (slave_record k h) (slave_after k h).kept k.domain c
  framed_same (frame t bytes) e =
      λ own.
      unheard_leaves (slave_record k h) (slave_after k h).kept t bytes
      (hears_same k l h a bytes ∙ none_heard (is_heard k bytes) _ e)
  framed_same (read domain t) e = tt
  framed_same (set domain t s ns) e = tt
  framed_same (cycle t out) e = tt
  framed_same (confirm domain t counter out) e = tt

  pub unheard_keeps : (c : Call) → heard_by k c ≡ [] → slave_record k (at_slave c ∷ h) ≡ slave_record k h
  unheard_keeps c e =
      call_does Same (slave_after k h) k.domain (slave_there k l h a) (slave_role k l h a) refl c (framed_same c e)

-- ---- a heard frame is for the domain's place

own_place : (k : Link) → Linked k → (bytes : List ℕ) → is_heard k bytes ≡ true → addressed_by bytes ≡ k.domain
own_place k l bytes e =
    let heard = heard_as k bytes e in
    let named = subst (Names bytes) heard.reads (read_names bytes) in
    ap (λ (x : ℕ). x % places) (sym named ∙ heard.domain) ∙ mod-eq_of_lt l.domain

-- ---- and stepped by its record at a good reading

heard_call :
    (d : Domain) (kept t : VirtualLocalTime) (bytes : List ℕ) (values : Frame) → d.settings.role ≡ Slave →
    hears d bytes ≡ true → read_of bytes ≡ Ok values → is_good_reading kept t ≡ true →
    frame_call_of d kept t bytes ≡ frame_stepped (kind_of d t values) kept t
heard_call d kept t bytes values is e reads good =
    let tests = both (is_read (read_of bytes) d.number) (is_taken d.settings.mode d.settings.ids bytes) e in
    let own : eqb (domain_in values) d.number ≡ true =
    subst (λ (r : Result Frame NoFrame). is_read r d.number ≡ true) reads tests.0
    in
    rw (good, reads, own, is, tests.1) refl

pub data Step (k : Link) (h : History) (t : VirtualLocalTime) (values : Frame) : Domain → Type 0 where
  stays : Step k h t values (slave_record k h)
  steps : (slave_after k h).kept.0 ≤ t.0 → Step k h t values (kind_of (slave_record k h) t values).domain

module _ (k : Link) (l : Linked k) (h : History) (a : AreCalls h) (t : VirtualLocalTime) (bytes : List ℕ)
    (values : Frame) (e : is_heard k bytes ≡ true) (reads : read_of bytes ≡ Ok values) where
  abbrev given : DomainCall (Outcome Taken)
  given = frame_call_of (slave_record k h) (slave_after k h).kept t bytes

  given_here : slave_record k (at_slave (frame t bytes) ∷ h) ≡ given.domain
  given_here =
      rw (own_place k l bytes e)
      (get_or-set_same (slave_after k h).domains k.domain given.domain _ (slave_there k l h a))

  given_as :
      is_good_reading (slave_after k h).kept t ≡ true →
      given ≡ frame_stepped (kind_of (slave_record k h) t values) (slave_after k h).kept t
  given_as =
      heard_call (slave_record k h) (slave_after k h).kept t bytes values (slave_role k l h a)
      (hears_same k l h a bytes ∙ e) reads

  stepped :
      is_good_reading (slave_after k h).kept t ≡ true →
      slave_record k (at_slave (frame t bytes) ∷ h) ≡ (kind_of (slave_record k h) t values).domain
  stepped good = given_here ∙ ap (λ (r : DomainCall (Outcome Taken)). r.domain) (given_as good)

  pub heard_step : Step k h t values (slave_record k (at_slave (frame t bytes) ∷ h))
  heard_step = go (is_good_reading (slave_after k h).kept t) refl
    where
      go :
          (b : Bool) → is_good_reading (slave_after k h).kept t ≡ b →
          Step k h t values (slave_record k (at_slave (frame t bytes) ∷ h))
      go true good =
          subst (Step k h t values) (sym (stepped good)) (steps (good_reading (slave_after k h).kept t good).0)
      go false bad = subst (Step k h t values) (sym (given_here ∙ rw bad refl)) stays

  pub heard_in_time :
      is_reading t ≡ true → (slave_after k h).kept.0 ≤ t.0 →
      (slave_record k (at_slave (frame t bytes) ∷ h) ≡ (kind_of (slave_record k h) t values).domain)
      × (answer_to (slave_after k h) (frame t bytes) ≡ numbered (outcome_number (kind_of (slave_record k h) t values).answer))
  heard_in_time range later =
      let good : is_good_reading (slave_after k h).kept t ≡ true = rw (range, le-leb _ _ later) refl in (
        stepped good,
        rw (own_place k l bytes e) (ap (λ (r : DomainCall (Outcome Taken)). numbered (outcome_number r.answer)) (given_as good)),
      )

-- ---- the kept reading: the one before, or the call's

module _ (P : VirtualLocalTime → Type 0) (kept t : VirtualLocalTime) (old : P kept) (new : P t) where
  frame_keeps : (f : Outcome Frame) (d : Domain) (bytes : List ℕ) → P (frame_call_as f d kept t bytes).kept
  frame_keeps (Err refusal) d bytes = old
  frame_keeps (Ok values) d bytes =
      let number = outcome_number (frame_of d t bytes values).answer in
      either P (eqb number 15) new (either P (eqb number 0) new old)

  set_keeps : (f : Outcome ⊤) (d : Domain) (s ns : ℕ) → P (set_call_as f d kept t s ns).kept
  set_keeps (Err refusal) d s ns = old
  set_keeps (Ok tt) d s ns = either P (eqb (outcome_number (set_of d t s ns).answer) 0) new old

  confirm_keeps :
      (f : Outcome ⊤) (d : Domain) (counter length : ℕ) → P (confirm_call_as f d kept t counter length).kept
  confirm_keeps (Err refusal) d counter length = old
  confirm_keeps (Ok tt) d counter length =
      either P (eqb (outcome_number (confirm_of d t counter (leb 8 length)).answer) 0) new old

call_keeps :
    (P : VirtualLocalTime → Type 0) (n : Node) (c : Call) → P n.kept → P (reading_of c) → P (node_after n c).kept
call_keeps P n (frame t bytes) old new =
    let d = record_at n.domains (addressed_by bytes) in
    frame_keeps P n.kept t old new (frame_admitted n.kept t d.number d.settings.role bytes) d bytes
call_keeps P n (read domain t) old new = old
call_keeps P n (set domain t s ns) old new =
    let d = record_at n.domains (domain % places) in
    set_keeps P n.kept t old new (admitted_of n.kept t d.number d.settings.role domain master) d s ns
call_keeps P n (cycle t out) old new =
    let Q : NodeStep (Outcome ℕ) → Type 0 = λ r. P r.node.kept in
    either Q (is_good_reading n.kept t) (either Q (is_room_for n (length out)) new old) old
call_keeps P n (confirm domain t counter out) old new =
    let d = record_at n.domains (domain % places) in
    confirm_keeps P n.kept t old new (admitted_of n.kept t d.number d.settings.role domain master) d counter
    (length out)

pub kept_before :
    (k : Link) → Linked k → (h : History) → AreCalls h → NeverFall k h → (t : VirtualLocalTime) →
    now k h ≤ on_slave k t → (slave_after k h).kept.0 ≤ t.0
kept_before k l [] a f t le =
    subst (λ (v : Outcome ⊤). (new_as v k.slave).node.kept.0 ≤ t.0) (sym l.good_slave) (omega arith)
kept_before k l (at_master c ∷ h) a f t le = kept_before k l h a.0 f.0 t (omega (arith, f.1, le))
kept_before k l (at_slave c ∷ h) a f t le =
    call_keeps (λ (r : VirtualLocalTime). r.0 ≤ t.0) (slave_after k h) c
    (kept_before k l h a.0 f.0 t (omega (arith, f.1, le))) (omega (arith, le))
