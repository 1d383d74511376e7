-- Laws of the difference. No contract cites this file.
--   difference_alike   D is the same against times of as many nanoseconds
--   difference_exact   D is the difference itself where 64 bits hold it
--   difference_read    as they do for any two times that can be read
-- Assumes nothing.
use Prim.Native.Nat.{ℕ, suc, ◌+◌, ◌-◌, ◌^◌, ◌≤◌, ◌<◌}
use mathlib.Core.Path.{◌≡◌, ap}
use mathlib.Core.Bool.{Bool, true, false, cond}
use native.Mathlib.Omega.{arith}
use lib.Dec.{ltb}
use lib.IntN.{pos, negsuc, sub_ℕ}
use Rattle.clock.specs.declared.time.GlobalTime.{GlobalTime}
use Rattle.clock.specs.Time.{nanoseconds_of, IsRead}
use Rattle.clock.specs.Difference.{held, difference_of}

pub difference_alike :
    (a b c : GlobalTime) → nanoseconds_of b ≡ nanoseconds_of c → difference_of a b ≡ difference_of a c
difference_alike a b c e = ap (λ (n : ℕ). held (sub_ℕ (nanoseconds_of a) n)) e

pub difference_exact :
    (a b : GlobalTime) →
    nanoseconds_of a < nanoseconds_of b + 2 ^ 63 → nanoseconds_of b ≤ nanoseconds_of a + 2 ^ 63 →
    difference_of a b ≡ sub_ℕ (nanoseconds_of a) (nanoseconds_of b)
difference_exact a b up down = go (ltb (nanoseconds_of a) (nanoseconds_of b))
  where
    x : ℕ
    x = nanoseconds_of a

    y : ℕ
    y = nanoseconds_of b

    go : (β : Bool) → held (cond β (negsuc (y - suc x)) (pos (x - y))) ≡ cond β (negsuc (y - suc x)) (pos (x - y))
    go true = ap negsuc (omega arith)
    go false = ap pos (omega arith)

pub difference_read :
    (a b : GlobalTime) → IsRead a → IsRead b →
    difference_of a b ≡ sub_ℕ (nanoseconds_of a) (nanoseconds_of b)
difference_read a b p q = difference_exact a b (omega arith) (omega arith)
