-- Paper 01, "Two clocks": a base once set. Assumes nothing.
use Rattle.std.specs.Prelude.{◌^◌, ◌≤◌, ◌≡◌}
use Rattle.clock.specs.declared.time.GlobalTime.{GlobalTime}
use Rattle.clock.specs.declared.base.TimeBase.{TimeBase}
use Rattle.clock.specs.declared.base.Parts.{Parts}
use Rattle.clock.specs.declared.reading.VirtualLocalTime.{VirtualLocalTime}
use Rattle.clock.specs.Reading.{span_of}
use Rattle.clock.specs.Time.{time_of, nanoseconds_of, advanced}

-- ---- "A base once set holds a global time and the local reading at which it was true."
abbrev pub base_of : GlobalTime → VirtualLocalTime → TimeBase
base_of g r = record { time = g; at = r }

-- ---- "Its time at reading t is that global time plus t minus that reading, exactly."
abbrev pub time_at : TimeBase → VirtualLocalTime → GlobalTime
time_at b t = advanced b.time (span_of b.at t)

-- ---- Seconds and nanoseconds that make up a time, with no more nanoseconds than 2^60.
pub record PartsOf (g : GlobalTime) (p : Parts) : Type 0 where
  pub same : nanoseconds_of (time_of p.seconds p.nanoseconds) ≡ nanoseconds_of g
  pub few : p.nanoseconds ≤ 2 ^ 60
