-- Each statement of demand 3 that a must-fail edit of `history` alters is false: antt computes a history that refutes
-- it. The laws have the names of the edits. As the demand has them, the same forms hold, so what is false is what the
-- edit alters. Of the edits of the three bounds see `follow_up_exceeded`, `confirmation_exceeded` and `loss_exceeded`.
-- No contract cites this file.
--   held_unaltered, over_unaltered, near_unaltered, one_unaltered, confirms_unaltered, taken_unaltered,
--   heard_unaltered
--                                  the forms as the demand has them hold
--   copy_up_to_twice_e_false       a copy twice E late: the FUP of the SYNC 16 later is joined to it
--   set_met                        a history with a set between a SYNC, 1 ns before a full second, and its
--                                  confirmation, 1 ns later, meets all of the first sentence
--   base_at_the_sync_false, ovs_dropped_false, time_set_after_the_sync_false, tied_to_the_fup_false,
--   confirmed_at_the_sync_false, counter_of_the_next_sync_false
--                                  it refutes these
--   never_behind_false             by the time that is E behind
--   never_ahead_false              by the time that is C ahead
--   tied_at_any_reading_false      by the time tied anew
--   clocks_met                     a history where the slave's clock is more than E behind the master's meets all
--   held_at_any_reading_false      it refutes that such times are held
--   alike_of_one                   a history within one second, where SYNC 16's pair is taken
--   all_alike_are_copied_false     SYNC 0 has its bytes
--   round_met                      a history where two pairs are taken, of counter 15 and then of 0
--   first_pair_only_false          before the second, the base is the first's
--   no_modulo_false                the second is answered 0
--   any_lists_read_false           under mode optional, other DataIDs: the first SYNC is refused
-- Assumes nothing.
use Rattle.std.specs.Prelude.{Some}
use Prim.Native.Nat.{ℕ}
use mathlib.Core.Path.{◌≡◌, refl, sym, ap, ap₂, subst, ◌∙◌}
use mathlib.Core.Bool.{Bool, true, false, not, ◌&&◌, true≢false, false≢true}
use mathlib.Core.Logic.{inl, inr}
use mathlib.Core.List.{List, [], ◌∷◌, ◌++◌}
use native.Mathlib.Omega.{arith}
use lib.Dec.{eqb}
use lib.ListN.{get_or, drop}
use borrow.Author.Tests.{not-true}
use Rattle.promise.proofs.Tests.{both}
use Rattle.clock.specs.declared.reading.VirtualLocalTime.{VirtualLocalTime}
use Rattle.clock.specs.declared.time.GlobalTime.{GlobalTime}
use Rattle.clock.specs.declared.base.TimeBase.{TimeBase}
use Rattle.clock.specs.Base.{base_of}
use Rattle.crc8.specs.Crc8.{step_of, eight_steps_of, crc_of, check_of}
use Rattle.round.specs.Round.{goes}
use Rattle.node_call.specs.Calls.{Call, frame, read, set, cycle, confirm, numbered, answer_to}
use Rattle.history.specs.History.{
  Link,
  Event,
  at_master,
  at_slave,
  History,
  slave_after,
  slave_record,
  Sent,
  sent_in,
  In,
  counter_in,
}
use Rattle.history.specs.Demand.{Linked, Reads, TimeOfOne, Copy, Fair}
use Rattle.history.proofs.Grown.{in_more}
use Rattle.history.proofs.HeardAll.{each_frame_heard}
use Rattle.history.proofs.Confirms.{each_fup_confirms}
use Rattle.history.proofs.Held.{each_time_held}
use Rattle.history.proofs.One.{each_sync_one, each_time_near}
use Rattle.history.proofs.Taken.{each_pair_taken}
use Rattle.history_day.specs.Met.{HeldMet, PairMet}
use Rattle.history_day.specs.Settings.{ms}
use Rattle.history_day.specs.Edges.{
  follow_up_edge,
  follow_up_base,
  anew_link,
  anew_day,
  anew_base,
  near_link,
  near_sync,
  behind_fup,
  behind_day,
  behind_base,
  ahead_fup,
  ahead_day,
  loss_link,
}
use Rattle.history_day.specs.Altered.{
  by_e,
  by_c,
  Tie,
  carried_on,
  unaltered,
  TimeOf,
  HeldBy,
  BaseAtTheSync,
  OvsDropped,
  TimeSetAfterTheSync,
  TiedToTheFup,
  HeldOver,
  CopyUpToTwiceE,
  NearBy,
  NeverBehind,
  NeverAhead,
  any_reading,
  TiedAtAnyReading,
  HeldAtAnyReading,
  OneBy,
  AllAlikeAreCopied,
  ConfirmsBy,
  EachConfirmsBy,
  ConfirmedAtTheSync,
  CounterOfTheNextSync,
  TakenBy,
  EachTakenBy,
  zeroes,
  with_call,
  FirstPairOnly,
  NoModulo,
  HeardIf,
  AnyListsRead,
  half_link,
  set_sync,
  set_fup,
  set_day,
  set_base,
  clocks_link,
  clocks_day,
  clocks_base,
  sync_within,
  sent_within,
  alike_fup,
  alike_before,
  alike_day,
  alike_base,
  round_moment,
  round_fup,
  round_sync,
  round_older,
  round_before,
  round_earlier,
  round_day,
  lists_link,
  lists_day,
  lists_sync,
}
use Rattle.history_day.proofs.Tests.{linked_by, fair, held_met, taken_met, all_same_lem}
use Rattle.history_day.proofs.Edges.{under_exceed, follow_up_wrong, anew_met, behind_by_e, ahead_by_c, loss_met}

-- ---- the forms as the demand has them
abbrev as_told : (k : Link) (h : History) (b : TimeBase) → TimeOfOne k h b → TimeOf unaltered k h b
as_told k h b one =
    record {
      sync = one.sync;
      fup = one.fup;
      newer = one.newer;
      older = one.older;
      sent = one.sent;
      is_a_sync = one.is_a_sync;
      is_a_fup = one.is_a_fup;
      time = one.time;
      after = one.after;
      before = one.before;
      copy = one.copy;
      copied = one.copied;
    }

abbrev as_one : (k : Link) (h : History) (b : TimeBase) → TimeOf unaltered k h b → TimeOfOne k h b
as_one k h b told =
    record {
      sync = told.sync;
      fup = told.fup;
      newer = told.newer;
      older = told.older;
      sent = told.sent;
      is_a_sync = told.is_a_sync;
      is_a_fup = told.is_a_fup;
      time = told.time;
      after = told.after;
      before = told.before;
      copy = told.copy;
      copied = told.copied;
    }

pub held_unaltered : HeldBy unaltered
held_unaltered k exceed h f b holds =
    as_told k h b (held_met k h b (record { fair = f; exceed = exceed; holds = holds }) each_time_held)

pub over_unaltered : HeldOver (λ k. k)
over_unaltered = under_exceed each_time_held

pub near_unaltered : NearBy unaltered by_e by_c
near_unaltered k h f b told =
    let near = each_time_near k f.linked h f.calls f.never_fall b (as_one k h b told) in
    record { behind = near.behind; ahead = near.ahead }

pub one_unaltered : OneBy (λ other b. b.at)
one_unaltered k exceed h f = each_sync_one k f.linked exceed h f.calls f.never_fall

pub confirms_unaltered : EachConfirmsBy by_c 0
confirms_unaltered k h f newer older fup sent is =
    let c = each_fup_confirms k f.linked h f.calls newer older fup sent is in
    record {
      sync = c.sync;
      rest = c.rest;
      next = c.next;
      is_a_sync = c.is_a_sync;
      counter = omega (arith, c.counter);
      not_before = c.not_before;
      in_time = c.in_time;
    }

pub taken_unaltered : EachTakenBy zeroes with_call
taken_unaltered k h moment newer fup sync older met row =
    let t = taken_met each_pair_taken k h moment newer fup sync older met row in
    record {
      after = t.after;
      before = t.before;
      call = t.call;
      next = t.next;
      number = t.number;
      base = t.base;
      updates = t.updates;
    }

pub heard_unaltered : HeardIf Reads
heard_unaltered = each_frame_heard

-- ---- copies twice E late
pub copy_up_to_twice_e_false : CopyUpToTwiceE → ⊥
copy_up_to_twice_e_false each =
    follow_up_wrong.wrong
    (each half_link (record { follow_up = omega arith; confirmation = omega arith }) follow_up_edge
    follow_up_wrong.fair follow_up_base follow_up_wrong.holds)

-- ---- what is handed in where
abbrev hands : VirtualLocalTime → (kind : ℕ) → Call → Bool
hands at kind (frame t bytes) = eqb t.0 at.0 && eqb (get_or bytes 0 0) kind
hands at kind (read domain t) = false
hands at kind (set domain t seconds nanoseconds) = false
hands at kind (cycle t out) = false
hands at kind (confirm domain t counter out) = false

abbrev hands_in : VirtualLocalTime → (kind : ℕ) → Event → Bool
hands_in at kind (at_master c) = false
hands_in at kind (at_slave c) = hands at kind c

abbrev none : (Event → Bool) → History → Bool
none is [] = true
none is (x ∷ h) = not (is x) && none is h

not_there :
    (is : Event → Bool) (after : History) (x : Event) (before : History) → none is (after ++ (x ∷ before)) ≡ true →
    is x ≡ true → ⊥
not_there is [] x before e p = true≢false (sym p ∙ not-true (is x) (both (not (is x)) (none is before) e).0)
not_there is (y ∷ after) x before e p =
    not_there is after x before (both (not (is y)) (none is (after ++ (x ∷ before))) e).1 p

newest_there :
    (is : Event → Bool) (y : Event) (h after : History) (x : Event) (before : History) → none is h ≡ true →
    is x ≡ true → y ∷ h ≡ after ++ (x ∷ before) → h ≡ before
newest_there is y h [] x before e p q = cc
newest_there is y h (z ∷ after) x before e p q =
    let tail : h ≡ after ++ (x ∷ before) = cc in
    absurd (not_there is after x before (ap (none is) (sym tail) ∙ e) p)

-- ---- a pair alone
only_pair :
    (newer older : List Sent) (fup sync f s : Sent) → f ∷ s ∷ [] ≡ newer ++ (fup ∷ sync ∷ older) →
    (f ≡ fup) × (s ≡ sync)
only_pair [] older fup sync f s e = (cc, cc)
only_pair (x ∷ []) older fup sync f s e = let z : ◌≡◌ {A = ℕ} 0 1 = cc in absurd (omega arith)
only_pair (x ∷ y ∷ []) older fup sync f s e = let z : ◌≡◌ {A = ℕ} 0 1 = cc in absurd (omega arith)
only_pair (x ∷ y ∷ w ∷ newer) older fup sync f s e = let z : ◌≡◌ {A = ℕ} 0 1 = cc in absurd (omega arith)

-- ---- a set between a SYNC and its confirmation
pub set_met : HeldMet near_link set_day set_base
unfolding goes
set_met =
    record {
      fair = fair near_link behind_by_e.met.fair.linked refl set_day refl;
      exceed = behind_by_e.met.exceed;
      holds = refl;
    }

set_sent : set_fup ∷ set_sync ∷ [] ≡ sent_in near_link set_day
unfolding goes
set_sent = refl

module _ (t : Tie) (each : HeldBy t) where
  set_told : TimeOf t near_link set_day set_base
  set_told = each near_link set_met.exceed set_day set_met.fair set_base set_met.holds

  set_pair : (set_fup ≡ set_told.fup) × (set_sync ≡ set_told.sync)
  set_pair =
      only_pair set_told.newer set_told.older set_told.fup set_told.sync set_fup set_sync
      (set_sent ∙ set_told.sent)

  set_time : set_base.time ≡ t.time set_sync set_fup
  set_time = set_told.time ∙ ap₂ t.time (sym set_pair.1) (sym set_pair.0)

pub base_at_the_sync_false : BaseAtTheSync → ⊥
base_at_the_sync_false each = omega (arith, ap (λ (g : GlobalTime). g.0) (set_time _ each))

pub ovs_dropped_false : OvsDropped → ⊥
ovs_dropped_false each = omega (arith, ap (λ (g : GlobalTime). g.0) (set_time _ each))

pub time_set_after_the_sync_false : TimeSetAfterTheSync → ⊥
time_set_after_the_sync_false each = omega (arith, ap (λ (g : GlobalTime). g.0) (set_time _ each))

pub tied_to_the_fup_false : TiedToTheFup → ⊥
tied_to_the_fup_false each =
    let told = set_told _ each in
    let copy : set_day ≡ told.after ++ (at_slave (frame (ms 1001) set_fup.bytes) ∷ told.before) =
    told.copy
    ∙ ap (λ (f : Sent). told.after ++ (at_slave (frame (ms 1001) f.bytes) ∷ told.before))
    (sym (set_pair _ each).0) in
    let is = hands_in (ms 1001) 0x18 in
    not_there is told.after _ told.before (ap (none is) (sym copy)) refl

-- ---- how far a time is off
pub never_behind_false : NeverBehind → ⊥
never_behind_false each =
    let off = each near_link behind_day behind_by_e.met.fair behind_base (as_told _ _ _ behind_by_e.one) in
    omega (arith, off.behind, behind_by_e.behind)

pub never_ahead_false : NeverAhead → ⊥
never_ahead_false each =
    let off = each near_link ahead_day ahead_by_c.met.fair _ (as_told _ _ _ ahead_by_c.one) in
    omega (arith, off.ahead, ahead_by_c.ahead)

-- ---- a time tied anew
anew_sent : sent_within 1 16 ++ (ahead_fup ∷ near_sync ∷ []) ≡ sent_in anew_link anew_day
unfolding goes
anew_sent = all_same_lem (sent_within 1 16 ++ (ahead_fup ∷ near_sync ∷ [])) (sent_in anew_link anew_day) refl

anew_told : TimeOf any_reading anew_link anew_day anew_base
anew_told =
    record {
      sync = near_sync;
      fup = ahead_fup;
      newer = sent_within 1 16;
      older = [];
      sent = sym anew_sent;
      is_a_sync = refl;
      is_a_fup = refl;
      time = refl;
      after = [];
      before = drop 1 anew_day;
      copy = refl;
      copied =
          record {
            sent =
                subst (In near_sync) anew_sent
                (in_more near_sync (sent_within 1 16) (ahead_fup ∷ near_sync ∷ []) (inr (inl refl)));
            same = refl;
            soon = omega arith;
          };
    }

pub tied_at_any_reading_false : TiedAtAnyReading → ⊥
unfolding anew_told
tied_at_any_reading_false each =
    omega (arith, (each anew_link anew_day anew_met.fair anew_base anew_told).behind)

-- ---- clocks that differ
clocks_linked : Linked clocks_link
clocks_linked = linked_by _ (omega arith) refl refl refl refl refl refl

pub clocks_met : HeldMet clocks_link clocks_day clocks_base
unfolding goes
clocks_met =
    record {
      fair = fair clocks_link clocks_linked refl clocks_day refl;
      exceed = record { follow_up = omega arith; confirmation = omega arith };
      holds = refl;
    }

clocks_sent : behind_fup ∷ near_sync ∷ [] ≡ sent_in clocks_link clocks_day
unfolding goes
clocks_sent = refl

pub held_at_any_reading_false : HeldAtAnyReading → ⊥
held_at_any_reading_false each =
    let told = each clocks_link clocks_met.exceed clocks_day clocks_met.fair clocks_base clocks_met.holds in
    let pair =
    only_pair told.newer told.older told.fup told.sync behind_fup near_sync (clocks_sent ∙ told.sent) in
    omega (arith, told.copied.soon, ap (λ (s : Sent). s.at.0) pair.1)

-- ---- SYNCs alike
alike_sent : alike_fup ∷ sent_within 0 17 ≡ sent_in anew_link alike_day
unfolding goes
alike_sent = all_same_lem (alike_fup ∷ sent_within 0 17) (sent_in anew_link alike_day) refl

alike_fair : Fair anew_link alike_day
unfolding goes
alike_fair = fair anew_link anew_met.fair.linked refl alike_day refl

pub alike_of_one : TimeOfOne anew_link alike_day alike_base
alike_of_one =
    record {
      sync = sync_within 16;
      fup = alike_fup;
      newer = [];
      older = sent_within 0 16;
      sent = sym alike_sent;
      is_a_sync = refl;
      is_a_fup = refl;
      time = refl;
      after = _ ∷ [];
      before = alike_before;
      copy = refl;
      copied =
          record { sent = subst (In (sync_within 16)) alike_sent (inr (inl refl)); same = refl; soon = omega arith };
    }

pub all_alike_are_copied_false : AllAlikeAreCopied → ⊥
unfolding alike_of_one
all_alike_are_copied_false each =
    let copy : In near_sync (sent_in anew_link alike_before) =
    subst (In near_sync) alike_sent (in_more near_sync (alike_fup ∷ sent_within 1 16) (near_sync ∷ []) (inl refl)) in
    let same : near_sync ≡ sync_within 16 =
    each anew_link anew_met.exceed alike_day alike_fair alike_base alike_of_one near_sync
    (record { sent = copy; same = refl; soon = omega arith }) in
    omega (arith, ap (λ (s : Sent). s.at.0) same)

-- ---- confirmations
module _ (within : Link → ℕ) (up : ℕ) (each : EachConfirmsBy within up) where
  set_confirms : ConfirmsBy (within near_link) up set_fup (set_sync ∷ [])
  set_confirms = each near_link set_day set_met.fair [] (set_sync ∷ []) set_fup (sym set_sent) refl

  set_sync_lem : set_sync ≡ set_confirms.sync
  set_sync_lem = cc set_confirms.next

pub confirmed_at_the_sync_false : ConfirmedAtTheSync → ⊥
confirmed_at_the_sync_false each =
    omega (arith, (set_confirms _ _ each).in_time, ap (λ (s : Sent). s.at.0) (set_sync_lem _ _ each))

pub counter_of_the_next_sync_false : CounterOfTheNextSync → ⊥
counter_of_the_next_sync_false each =
    omega (arith, (set_confirms _ _ each).counter, ap counter_in (set_sync_lem _ _ each))

-- ---- a counter that goes round
pub round_met : PairMet loss_link round_day round_moment [] round_fup round_sync round_older
unfolding goes
round_met =
    record {
      fair = fair loss_link loss_met.fair.linked refl round_day refl;
      orderly = record { under_way = []; copies = round_fup ∷ round_sync ∷ round_older; all = refl; only = refl };
      copies = refl;
      is_a_fup = refl;
      soon = omega arith;
    }

-- what holds just before the last call
round_earlier_lem : (slave_record loss_link round_before).base ≡ Some round_earlier
unfolding goes
round_earlier_lem = refl

round_number : answer_to (slave_after loss_link round_before) (frame (ms 4500) round_fup.of.bytes) ≡ numbered 0
unfolding goes
round_number = refl

module _ (answered : Link → Copy → ℕ) (up_to : Event → History → History) (each : EachTakenBy answered up_to) where
  round_taken : TakenBy answered up_to loss_link round_moment round_day round_fup round_sync round_older
  round_taken = each loss_link round_day round_moment [] round_fup round_sync round_older round_met (omega arith)

  round_before_lem : round_before ≡ round_taken.before
  round_before_lem =
      newest_there (hands_in (ms 4500) 0x18) _ round_before round_taken.after _ round_taken.before refl refl
      round_taken.call

pub first_pair_only_false : FirstPairOnly → ⊥
first_pair_only_false each =
    let held =
    sym round_earlier_lem
    ∙ ap (λ (h : History). (slave_record loss_link h).base) (round_before_lem _ _ each)
    ∙ (round_taken _ _ each).base in
    let same : round_earlier ≡ base_of (carried_on round_sync.of round_fup.of) round_sync.at = cc held in
    omega (arith, ap (λ (b : TimeBase). b.time.0) same)

pub no_modulo_false : NoModulo → ⊥
no_modulo_false each =
    let told =
    sym round_number
    ∙ ap (λ (h : History). answer_to (slave_after loss_link h) (frame (ms 4500) round_fup.of.bytes))
    (round_before_lem _ _ each)
    ∙ (round_taken _ _ each).number in
    let z : ◌≡◌ {A = ℕ} 0 7 = cc told in
    omega arith

-- ---- other DataIDs
lists_linked : Linked lists_link
lists_linked = linked_by _ (omega arith) refl refl refl refl refl refl

pub any_lists_read_false : AnyListsRead → ⊥
unfolding goes check_of crc_of eight_steps_of step_of
any_lists_read_false each =
    false≢true
    (each lists_link lists_linked (inr (refl, refl)) lists_day ((tt, omega arith), tt) lists_sync (inl refl))
