-- Paper 01, "A slave's domain": the update counter. Assumes nothing.
use Rattle.std.specs.Prelude.{ℕ, ◌+◌, ◌%◌}

-- ---- "The update counter rises by 1, from 255 to 0."
abbrev pub next_update : ℕ → ℕ
next_update updates = (updates + 1) % 256
