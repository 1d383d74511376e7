-- Signed numbers of 64 bits, as `minus`, `magnitude` and the thresholds have them. No contract cites this file.
--   minus_one           -1 - m is the number below minus m
--   back                and taking it from -1 again gives m
--   tested              a test of a number's bits against 0 is a test of the number
--   not_below, below    what that test says of the number
-- Assumes nothing.
use Prim.Native.Nat.{ℕ, zero, suc, ◌-◌}
use mathlib.Core.Path.{◌≡◌, refl, ap}
use mathlib.Core.Bool.{Bool, true, false}
use native.Mathlib.Nat.{zero-add}
use native.Mathlib.Omega.{arith}
use lib.IntN.{ℤ, pos, negsuc, ◌-ℤ◌, nat_abs}
use lib.Signed.{lt_z}
use mir.Syntax.{w64}
use mir.Val.{SFits, to_z, of_z}
use mir.ValLaws.{to_z-of_z}
use borrow.Author.Tests.{ltb-true, le-ltb}

pub minus_one : (m : ℕ) → negsuc 0 -ℤ pos m ≡ negsuc m
minus_one zero = refl
minus_one (suc n) = ap (λ (k : ℕ). negsuc (suc k)) (zero-add n)

pub back : (m : ℕ) → negsuc 0 -ℤ negsuc m ≡ pos m
back m = rw (le-ltb (suc m) 1 (omega arith)) (ap pos (omega arith))

pub tested :
    (d : ℤ) → SFits w64 d → (b : Bool) → lt_z (to_z w64 (of_z w64 d)) (pos 0) ≡ b → lt_z d (pos 0) ≡ b
tested d f b e = rw (to_z-of_z w64 d f) at e

pub not_below : (z : ℤ) → lt_z z (pos 0) ≡ false → z ≡ pos (nat_abs z)
not_below (pos m) e = refl
not_below (negsuc m) e = cc

pub below : (z : ℤ) → lt_z z (pos 0) ≡ true → z ≡ negsuc (nat_abs z - 1)
below (pos m) e = absurd (omega (arith, ltb-true m 0 e))
below (negsuc m) e = ap negsuc (omega arith)
