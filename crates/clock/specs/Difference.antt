-- Paper 01, "A slave's domain": the order of two global times, and their difference D. Assumes nothing.
use Rattle.std.specs.Prelude.{ℕ, suc, ◌-◌, ◌^◌, min, Bool, false, ltb, ℤ, pos, negsuc}
use Rattle.std.proofs.Math.IntN.{sub_ℕ}
use Rattle.clock.specs.declared.time.GlobalTime.{GlobalTime}
use Rattle.clock.specs.Time.{nanoseconds_of}
use Rattle.std.specs.Ordering.{nat_cmp}
use Rattle.std.specs.declared.cmp.Ordering.{Ordering}

-- ---- The order of two times, by all of their nanoseconds: earlier is `Less`, the same `Equal`, later `Greater`.
abbrev pub order_of : GlobalTime → GlobalTime → Ordering
order_of a b = nat_cmp (nanoseconds_of a) (nanoseconds_of b)

-- ---- "let D be the new time minus the old": in signed 64 bits, held at the nearer end.
abbrev pub held : ℤ → ℤ
held (pos m) = pos (min m (2 ^ 63 - 1))
held (negsuc m) = negsuc (min m (2 ^ 63 - 1))

abbrev pub difference_of : GlobalTime → GlobalTime → ℤ
difference_of a b = held (sub_ℕ (nanoseconds_of a) (nanoseconds_of b))

-- ---- "D exceeds it", and "minus D exceeds it".
abbrev pub exceeds : ℤ → ℕ → Bool
exceeds (pos m) threshold = ltb threshold m
exceeds (negsuc m) threshold = false

abbrev pub minus_exceeds : ℤ → ℕ → Bool
minus_exceeds (pos m) threshold = false
minus_exceeds (negsuc m) threshold = ltb threshold (suc m)
