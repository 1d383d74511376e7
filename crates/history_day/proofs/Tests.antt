-- What demand 3 asks of a history, as tests that antt computes, and what the two sentences then say. No contract
-- cites this file.
--   linked_by   a link, from its parts
--   fair        a history that passes the test at each of its calls is fair
--   held_met    what is gathered of the first sentence is all that it asks
--   taken_met   what is gathered of the last sentence is all that it asks, but for the row
--   taken_from  the last sentence is the one where no SYNC of the row may be earlier
--   taken_spaced  what is gathered is all that the request's words ask
--   taken-until the last sentence is the one where FUPs may be no later
--   all_same    lists whose sendings are the same one by one are the same
--   every_base  a base passes a test after a part of a history where it does after every part
--   never_set   a base that is unset after each part of a history was never set
--   not_of_one  a base is of no SYNC where no FUP gives its time with the SYNC before it, or no copy of that SYNC can
--               have come at its reading
-- Assumes nothing.
use Rattle.std.specs.Prelude.{None, Ok, Option, Some}
use Prim.Native.Nat.{ℕ, zero, suc, ◌+◌, ◌≤◌, ◌<◌}
use mathlib.Core.Path.{◌≡◌, refl, sym, ap, subst, ◌∙◌}
use mathlib.Core.Logic.{inl, inr, ⊎_elim}
use mathlib.Core.Bool.{Bool, true, false, cond, ◌&&◌, ◌||◌, or-true, true≢false, false≢true}
use mathlib.Core.List.{List, [], ◌∷◌, ◌++◌}
use native.Mathlib.Omega.{arith}
use lib.Dec.{eqb, leb}
use borrow.Author.Tests.{eqb-true, leb-true, eq-eqb, le-leb}
use Rattle.settings.specs.Node.{places}
use Rattle.promise.proofs.Tests.{both}
use Rattle.clock.specs.declared.reading.VirtualLocalTime.{VirtualLocalTime}
use Rattle.clock.specs.declared.base.TimeBase.{TimeBase}
use Rattle.clock.specs.declared.time.GlobalTime.{GlobalTime}
use Rattle.clock.specs.Reading.{is_reading, span_of}
use Rattle.clock.specs.Time.{advanced}
use Rattle.node_call.specs.Calls.{reading_of}
use Rattle.node_laws.proofs.Witness.{is_call, is_call_lem}
use Rattle.settings.specs.declared.domain_settings.Role.TheVariants.{Slave, Master}
use Rattle.settings.specs.Node.{judged_of}
use Rattle.node_laws.specs.Reachable.{IsSettings}
use Rattle.history.specs.History.{
  master_settings,
  slave_settings,
  slave_record,
  Link,
  on_master,
  on_slave,
  Event,
  at_master,
  at_slave,
  History,
  Sent,
  sent_in,
  Heard,
  heard_by,
  In,
  is_fup,
  is_sync,
}
use Rattle.history.specs.Demand.{
  Linked,
  Reads,
  call_in,
  moment_of,
  now,
  NeverFall,
  CopyIn,
  Carried,
  TimeOfOne,
  EachTimeHeld,
  Copy,
  InRow,
  EachPairTaken,
  Spaced,
  EachSpacedTaken,
  Fair,
}
use Rattle.history.proofs.One.{not_after}
use Rattle.history_day.specs.Met.{HeldMet, TakenIf, at_most_l, RowBy, TakenFrom, SpacedBy, TakenUntil}

-- ---- a heard frame is a copy of one of the frames sent
abbrev same : List ℕ → List ℕ → Bool
same [] [] = true
same [] (b ∷ m) = false
same (a ∷ l) [] = false
same (a ∷ l) (b ∷ m) = eqb a b && same l m

same_true : (l m : List ℕ) → same l m ≡ true → l ≡ m
same_true [] [] e = refl
same_true [] (b ∷ m) e = cc
same_true (a ∷ l) [] e = cc
same_true (a ∷ l) (b ∷ m) e =
    let told = both (eqb a b) (same l m) e in
    let head : a ≡ b = eqb-true a b told.0 in
    let tail : l ≡ m = same_true l m told.1 in
    cc

abbrev is_copy : Link → Heard → Sent → Bool
is_copy k x s = same x.bytes s.bytes && leb (on_slave k x.at) (on_master k s.at + k.e)

abbrev is_of_one : Link → Heard → List Sent → Bool
is_of_one k x [] = false
is_of_one k x (s ∷ older) = is_copy k x s || is_of_one k x older

of_one :
    (k : Link) (before : History) (x : Heard) (l : List Sent) → ((s : Sent) → In s l → In s (sent_in k before)) →
    is_of_one k x l ≡ true → CopyIn k before x
of_one k before x [] within e = absurd (false≢true e)
of_one k before x (s ∷ older) within e =
    go (is_copy k x s) refl (of_one k before x older (λ z i. within z (inr i))) e
  where
    go :
        (b : Bool) → is_copy k x s ≡ b → (is_of_one k x older ≡ true → CopyIn k before x) →
        (b || is_of_one k x older) ≡ true → CopyIn k before x
    go true c later e =
        let told = both (same x.bytes s.bytes) (leb (on_slave k x.at) (on_master k s.at + k.e)) c in
        record {
          of = s;
          copied =
              record {
                sent = within s (inl refl);
                same = same_true x.bytes s.bytes told.0;
                soon = leb-true _ _ told.1;
              };
        }
    go false c later e = later e

abbrev are_of_one : Link → List Heard → List Sent → Bool
are_of_one k [] sent = true
are_of_one k (x ∷ rest) sent = is_of_one k x sent && are_of_one k rest sent

each_of_one :
    (k : Link) (before : History) (l : List Heard) → are_of_one k l (sent_in k before) ≡ true →
    (x : Heard) → In x l → CopyIn k before x
each_of_one k before [] e x i = absurd i
each_of_one k before (y ∷ l) e x i =
    let told = both (is_of_one k y (sent_in k before)) (are_of_one k l (sent_in k before)) e in
    let copy = of_one k before y (sent_in k before) (λ s j. j) told.0 in
    ⊎_elim
    (λ (p : x ≡ y). subst (λ (z : Heard). CopyIn k before z) (sym p) copy)
    (λ j. each_of_one k before l told.1 x j)
    i

abbrev is_carried : Link → Event → History → Bool
is_carried k (at_master c) h = true
is_carried k (at_slave c) h = are_of_one k (heard_by k c) (sent_in k h)

carried_on_lem : (k : Link) (x : Event) (h : History) → is_carried k x h ≡ true → Carried k h → Carried k (x ∷ h)
carried_on_lem k (at_master c) h e before = before
carried_on_lem k (at_slave c) h e before = (before, each_of_one k h (heard_by k c) e)

-- ---- the test of each call
abbrev fits : Link → Event → History → Bool
fits k x h =
    is_call (call_in x)
    && leb (now k h) (moment_of k x)
    && is_reading (reading_of (call_in x))
    && is_carried k x h

abbrev pub all_fit : Link → History → Bool
all_fit k [] = true
all_fit k (x ∷ h) = all_fit k h && fits k x h

pub linked_by :
    (k : Link) → k.domain < places → IsSettings k.master → IsSettings k.slave → judged_of k.master ≡ Ok tt →
    judged_of k.slave ≡ Ok tt → (master_settings k).role ≡ Master → (slave_settings k).role ≡ Slave → Linked k
linked_by k domain masters slaves good_master good_slave master slave =
    record {
      domain = domain;
      masters = masters;
      slaves = slaves;
      good_master = good_master;
      good_slave = good_slave;
      master = master;
      slave = slave;
    }

pub fair : (k : Link) → Linked k → Reads k → (h : History) → all_fit k h ≡ true → Fair k h
fair k linked reads [] e =
    record { linked = linked; reads = reads; calls = tt; never_fall = tt; in_range = tt; carried = tt }
fair k linked reads (x ∷ h) e =
    let told = both (all_fit k h) (fits k x h) e in
    let four = both _ (is_carried k x h) told.1 in
    let three = both _ (is_reading (reading_of (call_in x))) four.0 in
    let two = both (is_call (call_in x)) (leb (now k h) (moment_of k x)) three.0 in
    let before = fair k linked reads h told.0 in
    record {
      linked = linked;
      reads = reads;
      calls = (before.calls, is_call_lem (call_in x) two.0);
      never_fall = (before.never_fall, leb-true _ _ two.1);
      in_range = (before.in_range, three.1);
      carried = carried_on_lem k x h four.1 before.carried;
    }

-- ---- the two sentences
pub held_met : (k : Link) (h : History) (b : TimeBase) → HeldMet k h b → EachTimeHeld → TimeOfOne k h b
held_met k h b m each =
    each k m.fair.linked m.exceed h m.fair.calls m.fair.never_fall m.fair.carried b m.holds

pub taken_met : EachPairTaken → TakenIf (λ k moment. InRow k moment (slave_settings k).hysteresis)
taken_met each k h moment newer fup sync older m row =
    each k m.fair.linked h m.fair.calls m.fair.never_fall m.fair.in_range moment m.orderly
    newer older fup sync m.copies m.is_a_fup m.soon row

-- the row, with its two places as the demand has them
as_demanded :
    (k : Link) (moment h : ℕ) (y : Copy) (older : List Copy) → RowBy 0 at_most_l k moment h y older →
    InRow k moment h y older
as_demanded k moment zero y older row = omega (arith, row)
as_demanded k moment (suc h) y [] row = row
as_demanded k moment (suc h) y (q ∷ older) row =
    by (is_sync q.of) row (as_demanded k moment h q older) (as_demanded k moment (suc h) y older)
  where
    by :
        (b : Bool) →
        cond b (at_most_l k (span_of q.at y.at) × RowBy 0 at_most_l k moment h q older)
        (RowBy 0 at_most_l k moment (suc h) y older) →
        (RowBy 0 at_most_l k moment h q older → InRow k moment h q older) →
        (RowBy 0 at_most_l k moment (suc h) y older → InRow k moment (suc h) y older) →
        cond b ((span_of q.at y.at ≤ (slave_settings k).loss_time) × InRow k moment h q older)
        (InRow k moment (suc h) y older)
    by true (near, before) one further = (near, one before)
    by false before one further = further before

pub taken_from : EachPairTaken → TakenFrom 0
taken_from each k h moment newer fup sync older m row =
    taken_met each k h moment newer fup sync older m (as_demanded k moment (slave_settings k).hysteresis sync older row)

pub taken_spaced : EachSpacedTaken → SpacedBy 0 Spaced
taken_spaced each k h moment newer fup sync older m spaced late enough =
    each k m.fair.linked h m.fair.calls m.fair.never_fall m.fair.in_range moment m.orderly
    newer older fup sync m.copies m.is_a_fup m.soon spaced late (omega (arith, enough))

pub taken_until : EachPairTaken → TakenUntil 0
taken_until each k h f moment o newer older fup sync copies is_a_fup soon late =
    each k f.linked h f.calls f.never_fall f.in_range moment o newer older fup sync copies is_a_fup
    (omega (arith, soon))
    late

-- ---- a FUP and the SYNC before it give the time, and a copy of that SYNC can have come at its reading
abbrev is_time : GlobalTime → GlobalTime → Bool
is_time g g' = eqb g.0 g'.0 && eqb g.1 g'.1

is_time_lem : (g g' : GlobalTime) → g ≡ g' → is_time g g' ≡ true
is_time_lem g g' p =
    let seconds = eq-eqb g.0 g'.0 (ap (λ (x : GlobalTime). x.0) p) in
    let nanoseconds = eq-eqb g.1 g'.1 (ap (λ (x : GlobalTime). x.1) p) in
    rw (seconds, nanoseconds) refl

abbrev comes_at : Link → VirtualLocalTime → Sent → Bool
comes_at k at sync =
    leb (on_master k sync.at) (on_slave k at) && leb (on_slave k at) (on_master k sync.at + k.e)

abbrev gives : Link → TimeBase → Sent → List Sent → Bool
gives k b fup [] = false
gives k b fup (sync ∷ older) =
    is_fup fup && is_time b.time (advanced sync.time (span_of sync.at fup.at)) && comes_at k b.at sync

abbrev pub is_given : Link → TimeBase → List Sent → Bool
is_given k b [] = false
is_given k b (s ∷ older) = gives k b s older || is_given k b older

is_given_lem :
    (k : Link) (b : TimeBase) (newer : List Sent) (fup sync : Sent) (older : List Sent) → is_fup fup ≡ true →
    b.time ≡ advanced sync.time (span_of sync.at fup.at) → comes_at k b.at sync ≡ true →
    is_given k b (newer ++ (fup ∷ sync ∷ older)) ≡ true
is_given_lem k b [] fup sync older e p c = rw (e, is_time_lem b.time _ p, c) refl
is_given_lem k b (s ∷ newer) fup sync older e p c =
    rw (is_given_lem k b newer fup sync older e p c) (or-true (gives k b s (newer ++ (fup ∷ sync ∷ older))))

pub not_of_one :
    (k : Link) (h : History) (b : TimeBase) → NeverFall k h → is_given k b (sent_in k h) ≡ false → TimeOfOne k h b → ⊥
not_of_one k h b fall e one =
    let first = le-leb _ _ (not_after k h fall b one one.sync one.copied.sent) in
    let soon = le-leb _ _ one.copied.soon in
    let given =
    is_given_lem k b one.newer one.fup one.sync one.older one.is_a_fup one.time (rw (first, soon) refl) in
    true≢false (sym given ∙ ap (is_given k b) (sym one.sent) ∙ e)

-- ---- the same sendings, one by one
abbrev is_same : Sent → Sent → Bool
is_same s s' = same s.bytes s'.bytes && eqb s.at.0 s'.at.0 && is_time s.time s'.time

same_sent : (s s' : Sent) → is_same s s' ≡ true → s ≡ s'
same_sent s s' e =
    let three = both (same s.bytes s'.bytes && eqb s.at.0 s'.at.0) (is_time s.time s'.time) e in
    let two = both (same s.bytes s'.bytes) (eqb s.at.0 s'.at.0) three.0 in
    let times = both (eqb s.time.0 s'.time.0) (eqb s.time.1 s'.time.1) three.1 in
    let bytes = same_true s.bytes s'.bytes two.0 in
    let at = eqb-true s.at.0 s'.at.0 two.1 in
    let seconds = eqb-true s.time.0 s'.time.0 times.0 in
    let nanoseconds = eqb-true s.time.1 s'.time.1 times.1 in
    λ i. record { bytes = bytes i; at = record { 0 = at i }; time = record { 0 = seconds i; 1 = nanoseconds i } }

abbrev pub all_same : List Sent → List Sent → Bool
all_same [] [] = true
all_same [] (s ∷ m) = false
all_same (s ∷ l) [] = false
all_same (s ∷ l) (s' ∷ m) = is_same s s' && all_same l m

pub all_same_lem : (l m : List Sent) → all_same l m ≡ true → l ≡ m
all_same_lem [] [] e = refl
all_same_lem [] (s ∷ m) e = cc
all_same_lem (s ∷ l) [] e = cc
all_same_lem (s ∷ l) (s' ∷ m) e =
    let told = both (is_same s s') (all_same l m) e in
    let head = same_sent s s' told.0 in
    let tail = all_same_lem l m told.1 in
    cc

-- ---- what each base passes, and a base that was never set
abbrev pub every_base : (Option TimeBase → Bool) → Link → History → Bool
every_base test k [] = test (slave_record k []).base
every_base test k (x ∷ h) = test (slave_record k (x ∷ h)).base && every_base test k h

pub every_base_lem :
    (test : Option TimeBase → Bool) (k : Link) (after : History) (x : Event) (before : History) →
    every_base test k (after ++ (x ∷ before)) ≡ true → test (slave_record k (x ∷ before)).base ≡ true
every_base_lem test k [] x before e = (both (test (slave_record k (x ∷ before)).base) (every_base test k before) e).0
every_base_lem test k (y ∷ after) x before e =
    let rest = after ++ (x ∷ before) in
    every_base_lem test k after x before (both (test (slave_record k (y ∷ rest)).base) (every_base test k rest) e).1

abbrev is_unset : Option TimeBase → Bool
is_unset None = true
is_unset (Some b) = false

abbrev pub never_set : Link → History → Bool
never_set = every_base is_unset

pub never_set_lem :
    (k : Link) (after : History) (x : Event) (before : History) (b : TimeBase) →
    never_set k (after ++ (x ∷ before)) ≡ true → (slave_record k (x ∷ before)).base ≡ Some b → ⊥
never_set_lem k after x before b e p = false≢true (ap is_unset (sym p) ∙ every_base_lem is_unset k after x before e)
