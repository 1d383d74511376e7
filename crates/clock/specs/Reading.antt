-- Paper 01, "Two clocks": local readings. Assumes nothing.
use Rattle.std.specs.Prelude.{ℕ, ◌-◌, Bool, leb}
use Rattle.clock.specs.declared.reading.VirtualLocalTime.{VirtualLocalTime}

-- ---- "Local reading: 0 to 10^18."
abbrev pub is_reading : VirtualLocalTime → Bool
is_reading t = leb t.0 1000000000000000000

-- ---- What has passed from reading r to reading t: 0 where t is the earlier.
abbrev pub span_of : VirtualLocalTime → VirtualLocalTime → ℕ
span_of r t = t.0 - r.0
