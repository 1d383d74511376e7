-- Laws of decimal digits: a turn that writes the first of the last digits, and that `io` spells a number in
-- decimal, by induction on how many digits there may be. Assumes nothing.
use Prim.Native.Nat.{ℕ, zero, suc, ◌+◌, ◌-◌, ◌/◌, ◌%◌, ◌^◌, ◌≤◌, ◌<◌}
use mathlib.Core.Path.{◌≡◌}
use mathlib.Core.List.{[], ◌∷◌, ◌++◌}
use native.Mathlib.Nat.{pow-suc, mul-div_cancel, mod-lt, one-le-pow}
use native.Mathlib.Numerals.{sub-one}
use native.Mathlib.Omega.{arith}
use borrow.Author.Tests.{lt-ltb, le-ltb}
use Rattle.io.specs.Digits as io
use Rattle.text.specs.Text.{digits, spelled}

-- ---- The last digits of a number: the first of them, then the others. The power is ten to the others' count.

pub power_next : (left power : ℕ) → 0 < left → power ≡ 10 ^ left → power / 10 ≡ 10 ^ (left - 1)
power_next zero power h e = elim h [ ]
power_next (suc k) power h e = rw (e, sub-one, pow-suc 10 k) (mul-div_cancel (10 ^ k) (omega arith))

pub digits_next :
    (left n power : ℕ) → 0 < left → power ≡ 10 ^ (left - 1) →
    digits left n ≡ ((48 + n / power % 10) ∷ []) ++ digits (left - 1) n
unfolding digits
digits_next zero n power h e = elim h [ ]
digits_next (suc k) n power h e = rw (e, sub-one)

-- ---- The fewest digits that hold a number spell it in decimal.

ten : (n k : ℕ) → io.IsDigitCount 10 1 n (suc (suc k)) → (10 ^ suc k ≤ n) × (10 ≤ n)
ten n k f =
    let low : 10 ^ suc k ≤ n = rw sub-one at (f.2 (omega arith)) in
    (low, omega (arith, pow-suc 10 k, one-le-pow k 10 (omega arith)))

pub spells :
    (most n k : ℕ) → n < 10 ^ suc most → io.IsDigitCount 10 1 n k → io.last_digits 10 k n ≡ spelled (suc most) n
unfolding spelled
spells most n zero h f = absurd (omega arith)
spells most n (suc zero) h f = rw (lt-ltb (n % 10) 10 (mod-lt n (omega arith)), lt-ltb n 10 (omega arith))
spells zero n (suc (suc k)) h f = absurd (omega (arith, ten n k f))
spells (suc most) n (suc (suc k)) h f =
    let low = ten n k f in
    rw (
      lt-ltb (n % 10) 10 (mod-lt n (omega arith)),
      le-ltb n 10 low.1,
      ← spells most (n / 10) (suc k) (omega (arith, pow-suc 10 (suc most))) (
        omega arith,
        omega (arith, pow-suc 10 (suc k)),
        λ _. rw sub-one (omega (arith, pow-suc 10 k)),
      ),
    )
