-- Paper 01, "Two clocks": the kept reading. Assumes nothing.
use Rattle.std.specs.Prelude.{ℕ, cond, eqb}
use Rattle.clock.specs.declared.reading.VirtualLocalTime.{VirtualLocalTime}

-- ---- "The node keeps the greatest reading of its successful frame, set, main cycle and confirmation
-- calls": t, since 1 was tested; "0 is success"
abbrev pub kept_after : (number : ℕ) (kept t : VirtualLocalTime) → VirtualLocalTime
kept_after number kept t = cond (eqb number 0) t kept
