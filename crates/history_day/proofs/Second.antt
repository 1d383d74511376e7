-- A day within one second meets what demand 3 asks, at the bounds: antt computes it. No contract cites this file.
--   second_held     the first sentence's hypotheses hold of it, and the slave holds a time
--   second_taken    the last sentence's hypotheses hold of it and of the pair of SYNC 16, but for the moment
--   second_numbers  what its calls are answered
--   second_updates  eighteen pairs are taken
--   second_same     SYNC 16 has the bytes of SYNC 0
--   second-verdicts SYNC 0 is taken as no counter is known, all others by their counters
--   second_wrap     SYNC 16 comes within L of SYNC 15, its counter 0 after 15
--   second_of_one   so the time is of one SYNC
--   second_near     and as near as is said
--   second_pair     and the pair is taken
--   late_by_one     the last FUP arrives 1 ns more than the follow-up time after its SYNC
--   late_not_taken  and its pair is not taken
--   late_exceeded   so the last sentence is false for FUPs that are up to 1 ns later
-- Assumes nothing.
use Rattle.std.specs.Prelude.{None, Option, Some}
use Prim.Native.Nat.{◌+◌}
use mathlib.Core.Path.{◌≡◌, refl, sym, ap, ◌∙◌}
use mathlib.Core.Bool.{Bool, true, not, false≢true}
use mathlib.Core.List.{[]}
use native.Mathlib.Omega.{arith}
use lib.Dec.{eqb}
use Rattle.clock.specs.declared.reading.VirtualLocalTime.{VirtualLocalTime}
use Rattle.clock.specs.Reading.{span_of}
use Rattle.round.specs.Round.{goes}
use Rattle.history.specs.History.{slave_settings, slave_record, sent_in}
use Rattle.history.specs.Demand.{Linked, sent_since, sendings, Orderly, TimeOfOne, Near, Taken, Fair}
use Rattle.history.proofs.Held.{each_time_held}
use Rattle.history.proofs.One.{each_time_near}
use Rattle.history.proofs.Taken.{each_pair_taken}
use Rattle.history_day.specs.Met.{HeldMet, PairMet, TakenUntil, numbers_in}
use Rattle.history_day.specs.Second.{
  second_link,
  copy_sync,
  copy_fup,
  late_fup,
  copies,
  arriving,
  second,
  second_moment,
  second_copies,
  copies_after,
  second_numbers,
  second_base,
  verdicts_in,
  second_verdicts,
  NextWithin,
}
use Rattle.history_day.proofs.Tests.{
  linked_by,
  fair,
  all_fit,
  all_same_lem,
  all_same,
  held_met,
  taken_met,
  every_base,
  every_base_lem,
}
use Rattle.clock.specs.declared.base.TimeBase.{TimeBase}

linked : Linked second_link
linked = linked_by _ (omega arith) refl refl refl refl refl refl

fits : all_fit second_link second ≡ true
unfolding goes
fits = refl

second_fair : Fair second_link second
second_fair = fair second_link linked refl second fits

pub second_held : HeldMet second_link second second_base
unfolding goes
second_held =
    record {
      fair = second_fair;
      exceed = record { follow_up = omega arith; confirmation = omega arith };
      holds = refl;
    }

sent_all : all_same (sent_since second_link second_moment (sent_in second_link second)) (sendings second_copies) ≡ true
unfolding goes
sent_all = refl

orderly : Orderly second_link second_moment second
orderly =
    record {
      under_way = [];
      copies = second_copies;
      all = all_same_lem (sent_since second_link second_moment (sent_in second_link second)) (sendings second_copies) sent_all;
      only = refl;
    }

pub second_taken :
    PairMet second_link second second_moment copies_after (copy_fup 16) (copy_sync 16) (copies 16)
unfolding orderly
second_taken =
    record {
      fair = second_fair;
      orderly = orderly;
      copies = refl;
      is_a_fup = refl;
      soon = omega arith;
    }

pub second_numbers_lem : numbers_in second_link second ≡ second_numbers
unfolding goes
second_numbers_lem = refl

pub second_updates : (slave_record second_link second).updates ≡ 18
unfolding goes
second_updates = refl

pub second_same : (copy_sync 16).of.bytes ≡ (copy_sync 0).of.bytes
second_same = refl

pub second_verdicts_lem : verdicts_in second_link second ≡ second_verdicts
unfolding goes
second_verdicts_lem = refl

pub second_wrap : NextWithin second_link (arriving 12) 15 0 (copy_sync 15).at (copy_sync 16)
unfolding goes
second_wrap = record { seen = refl; within = omega arith; next = refl }

-- ---- the theorems, of this day
pub second_of_one : TimeOfOne second_link second second_base
second_of_one = held_met second_link second second_base second_held each_time_held

pub second_near : Near second_link second_base second_of_one.sync
second_near =
    each_time_near second_link linked second second_fair.calls second_fair.never_fall second_base second_of_one

pub second_pair : Taken second_link second_moment second (copy_fup 16) (copy_sync 16) (copies 16)
second_pair =
    taken_met each_pair_taken second_link second second_moment copies_after (copy_fup 16) (copy_sync 16) (copies 16)
    second_taken
    (omega arith)

-- ---- the late FUP
pub late_by_one :
    span_of (copy_sync 18).at late_fup.at ≡ (slave_settings second_link).follow_up_time + 1
late_by_one = refl

abbrev is_not_at : VirtualLocalTime → Option TimeBase → Bool
is_not_at t None = true
is_not_at t (Some b) = not (eqb b.at.0 t.0)

late_never : every_base (is_not_at (copy_sync 18).at) second_link second ≡ true
unfolding goes
late_never = refl

pub late_not_taken : Taken second_link second_moment second late_fup (copy_sync 18) (copies 18) → ⊥
late_not_taken t =
    let test = is_not_at (copy_sync 18).at in
    false≢true
    (ap test (sym t.base)
    ∙ every_base_lem test second_link t.after _ t.before
    (ap (every_base test second_link) (sym t.call) ∙ late_never))

pub late_exceeded : TakenUntil 1 → ⊥
unfolding orderly
late_exceeded each =
    late_not_taken
    (each second_link second second_fair second_moment orderly [] (copies 18) late_fup (copy_sync 18) refl refl
    (omega arith)
    (omega arith))
