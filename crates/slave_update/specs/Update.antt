-- Paper 01, "A slave's domain": what a pair and its FUP make of the base. Assumes nothing.
use Rattle.std.specs.Prelude.{ℕ, ◌+◌, ℤ, None, Ok, Option, Some}
use Rattle.clock.specs.declared.base.TimeBase.{TimeBase}
use Rattle.clock.specs.Difference.{difference_of}
use Rattle.clock.specs.Base.{base_of, time_at}
use Rattle.frame.specs.declared.values.Fup.{Fup}
use Rattle.domain.specs.declared.Pair.{Pair}
use Rattle.slave_update.specs.declared.update.Update.{Update}
use Rattle.slave_update.specs.Leap.{leap_after}
use Rattle.domain.specs.declared.Leap.{Leap}
use Rattle.slave_answer.specs.declared.Taken.TheVariants.{First, Updated}

-- ---- "The base then holds seconds plus OVS, and the nanoseconds, at T2."
abbrev pub new_base : Pair → Fup → TimeBase
new_base p f = base_of (record { 0 = p.seconds + f.ovs; 1 = f.nanoseconds }) p.at

-- ---- "On each update of a set base let D be the new time minus the old base's time, both at the new
-- T2." "The first update clears both."
abbrev pub moved_by : TimeBase → TimeBase → ℤ
moved_by old new = difference_of new.time (time_at old new.at)

abbrev pub update_of : (future past count : ℕ) → Option Leap → Option TimeBase → TimeBase → Update
update_of future past count held None new = record { answer = First; leap = None }
update_of future past count held (Some old) new =
    record { answer = Updated (moved_by old new); leap = leap_after future past count held (moved_by old new) }
