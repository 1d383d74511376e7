-- Paper 01, "Refusal numbers": 1 "reading above 10^18 or before the kept one". Assumes nothing.
use Rattle.std.specs.Prelude.{Bool, ◌&&◌, leb}
use Rattle.clock.specs.declared.reading.VirtualLocalTime.{VirtualLocalTime}
use Rattle.clock.specs.Reading.{is_reading}

-- ---- "an earlier reading is refused, an equal one is good"
abbrev pub is_good_reading : (kept t : VirtualLocalTime) → Bool
is_good_reading kept t = is_reading t && leb kept.0 t.0
