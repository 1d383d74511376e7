-- What D is written as, by its sign.
--   below      a D below 0
--   not_below  another
-- Assumes nothing.
use mathlib.Core.Path.{◌≡◌, refl}
use mathlib.Core.Bool.{true, false}
use native.Mathlib.Omega.{arith}
use lib.IntN.{ℤ, pos, negsuc, nat_abs}
use lib.Signed.{lt_z}
use borrow.Author.Tests.{ltb-true}
use Rattle.sheet_line.specs.Signed.{plain_text, minus_text, signed_text}

pub below : (d : ℤ) → lt_z d (pos 0) ≡ true → minus_text (nat_abs d) ≡ signed_text d
below (pos m) e = absurd (omega (arith, ltb-true m 0 e))
below (negsuc m) e = refl

pub not_below : (d : ℤ) → lt_z d (pos 0) ≡ false → plain_text (nat_abs d) ≡ signed_text d
not_below (pos m) e = refl
not_below (negsuc m) e = cc
