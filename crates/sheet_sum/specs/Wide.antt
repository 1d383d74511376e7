-- A number of 128 bits. Assumes nothing.
use Rattle.std.specs.Prelude.{ℕ, ◌+◌, ◌-◌, ◌^◌, min}

-- ---- So much more: held at the last number.
abbrev pub last_wide : ℕ
last_wide = 2 ^ 128 - 1

abbrev pub more_of : (wide more : ℕ) → ℕ
more_of wide more = min (wide + more) last_wide
