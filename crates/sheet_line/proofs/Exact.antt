-- What a line says of a sum. No contract cites this file.
--   told_exact   a sum inside signed 64 bits is printed as itself
--   over_told    another is printed as `over`
-- Assumes nothing.
use Prim.Native.Nat.{suc, ◌-◌, ◌^◌}
use mathlib.Core.Path.{◌≡◌, ap}
use native.Mathlib.Omega.{arith}
use lib.IntN.{ℤ, pos, negsuc}
use borrow.Author.Tests.{le-leb}
use Rattle.std.specs.Prelude.{None}
use Rattle.sheet_sum.specs.Sum.{Within64, told_of}
use Rattle.sheet_sum.proofs.Sums.{told_over}
use Rattle.sheet_line.specs.Signed.{signed_text, told_text}

pub told_exact : (z : ℤ) → Within64 z → told_text (told_of z) ≡ signed_text z
told_exact (pos m) h = rw (le-leb m (2 ^ 63 - 1) (omega arith))
told_exact (negsuc m) h = rw (le-leb (suc m) (2 ^ 63) (omega arith))

pub over_told : (z : ℤ) → (Within64 z → ⊥) → told_text (told_of z) ≡ told_text None
over_told z out = ap told_text ((told_over z).1 out)
