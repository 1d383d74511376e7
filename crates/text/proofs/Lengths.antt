-- How many bytes a text has. Assumes nothing.
use Prim.Native.Nat.{ℕ, zero, suc, ◌+◌, ◌*◌, ◌%◌, ◌/◌, ◌≤◌}
use mathlib.Core.Path.{◌≡◌, refl, ap}
use mathlib.Core.Bool.{Bool, true, false, cond}
use mathlib.Core.List.{List, [], ◌∷◌, ◌++◌}
use native.Mathlib.Omega.{arith}
use lib.Dec.{ltb}
use lib.ListN.{length, length-append}
use Rattle.text.specs.Text.{hex_of, digits, spelled, decimal}

spelled_length : (most n : ℕ) → length (spelled most n) ≤ most
unfolding spelled
spelled_length zero n = omega arith
spelled_length (suc most) n = go (ltb n 10) (spelled_length most (n / 10))
  where
    go :
        (b : Bool) → length (spelled most (n / 10)) ≤ most →
        length (cond b [] (spelled most (n / 10)) ++ ((48 + n % 10) ∷ [])) ≤ suc most
    go true h = omega arith
    go false h = omega (arith, length-append (spelled most (n / 10)) ((48 + n % 10) ∷ []))

pub decimal_length : (n : ℕ) → length (decimal n) ≤ 20
decimal_length n = spelled_length 20 n

pub digits_length : (k n : ℕ) → length (digits k n) ≡ k
unfolding digits
digits_length zero n = refl
digits_length (suc k) n = ap suc (digits_length k n)

pub hex_length : (bytes : List ℕ) → length (hex_of bytes) ≡ 2 * length bytes
hex_length [] = refl
hex_length (b ∷ bytes) = omega (arith, hex_length bytes)

pub append_fits :
    (xs ys : List ℕ) {a b : ℕ} → length xs ≤ a → length ys ≤ b → length (xs ++ ys) ≤ a + b
append_fits xs ys h k = omega (arith, length-append xs ys)
