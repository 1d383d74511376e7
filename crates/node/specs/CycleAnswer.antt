-- Paper 01, "Refusal numbers": what a main cycle answers. Assumes nothing.
use Rattle.std.specs.Prelude.{ℕ, Err, Ok}
use Rattle.refusal.specs.Numbers.{number_of, Outcome}

-- ---- "0 is success"; "A refused call returns the number and zeros"
abbrev pub cycle_count : Outcome ℕ → ℕ
cycle_count (Ok count) = count
cycle_count (Err refusal) = 0
