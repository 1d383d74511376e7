-- A day of a master and a slave meets what demand 3 asks: antt computes it. No contract cites this file.
--   day_held      the first sentence's hypotheses hold of it, and the slave holds a time
--   day_taken     the last sentence's hypotheses hold of it and of its last pair, but for the moment
--   day_numbers   what its calls are answered
--   day_of_one    so the time is of one SYNC
--   day_near      and as near as is said
--   day_pair      and the pair is taken
-- Assumes nothing.
use mathlib.Core.Path.{◌≡◌, refl}
use mathlib.Core.Bool.{true}
use mathlib.Core.List.{[], ◌∷◌}
use native.Mathlib.Omega.{arith}
use Rattle.crc8.specs.Crc8.{step_of, eight_steps_of, crc_of, check_of}
use Rattle.round.specs.Round.{goes}
use Rattle.history.specs.Demand.{Linked, Orderly, TimeOfOne, Near, Taken, Fair}
use Rattle.history.proofs.Held.{each_time_held}
use Rattle.history.proofs.One.{each_time_near}
use Rattle.history.proofs.Taken.{each_pair_taken}
use Rattle.history_day.specs.Met.{HeldMet, PairMet, numbers_in}
use Rattle.history_day.specs.Settings.{ms}
use Rattle.history_day.specs.Day.{
  day_link,
  day,
  day_moment,
  day_numbers,
  copy_fup5,
  copy_sync5,
  copies_before,
  day_base,
}
use Rattle.history_day.proofs.Tests.{linked_by, fair, all_fit, held_met, taken_met}

linked : Linked day_link
linked = linked_by _ (omega arith) refl refl refl refl refl refl

fits : all_fit day_link day ≡ true
unfolding goes check_of crc_of eight_steps_of step_of
fits = refl

day_fair : Fair day_link day
day_fair = fair day_link linked refl day fits

pub day_held : HeldMet day_link day day_base
unfolding goes check_of crc_of eight_steps_of step_of
day_held =
    record { fair = day_fair; exceed = record { follow_up = omega arith; confirmation = omega arith }; holds = refl }

orderly : Orderly day_link day_moment day
unfolding goes check_of crc_of eight_steps_of step_of
orderly =
    record {
      under_way =
          record {
            bytes = 0x20 ∷ 0x8E ∷ 0x56 ∷ 0x11 ∷ 0x00 ∷ 0x00 ∷ 0x07 ∷ 0xD6 ∷ [];
            at = ms 17000;
            time = record { 0 = 2006; 1 = 970000000 };
          }
          ∷ [];
      copies = copy_fup5 ∷ copy_sync5 ∷ copies_before;
      all = refl;
      only = refl;
    }

pub day_taken : PairMet day_link day day_moment [] copy_fup5 copy_sync5 copies_before
unfolding orderly
day_taken =
    record {
      fair = day_fair;
      orderly = orderly;
      copies = refl;
      is_a_fup = refl;
      soon = omega arith;
    }

pub day_numbers_lem : numbers_in day_link day ≡ day_numbers
unfolding goes check_of crc_of eight_steps_of step_of
day_numbers_lem = refl

-- ---- the theorems, of this day
pub day_of_one : TimeOfOne day_link day day_base
day_of_one = held_met day_link day day_base day_held each_time_held

pub day_near : Near day_link day_base day_of_one.sync
day_near = each_time_near day_link linked day day_fair.calls day_fair.never_fall day_base day_of_one

pub day_pair : Taken day_link day_moment day copy_fup5 copy_sync5 copies_before
day_pair =
    taken_met each_pair_taken day_link day day_moment [] copy_fup5 copy_sync5 copies_before day_taken (omega arith)
