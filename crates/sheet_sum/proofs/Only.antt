-- No two results satisfy the promise of F, as `F_only` for each public function F. No contract cites this file.
-- Assumes nothing.
use Prim.Native.Nat.{ℕ}
use mathlib.Core.Path.{◌≡◌}
use Rattle.std.specs.Prelude.{Option}
use lib.IntN.{ℤ}
use Rattle.promise.specs.Only.{OnlyOne}
use Rattle.promise.proofs.Laws.{equation_only}
use Rattle.sheet_sum.specs.declared.Sum.{Sum}
use Rattle.sheet_sum.specs.declared.Told.{Told}
use Rattle.sheet_sum.specs.Wide.{more_of}
use Rattle.sheet_sum.specs.Sum.{no_sum, sum_with, sum_of, told_of}

pub plus_only : (w more : ℕ) → OnlyOne (λ (r : ℕ). r ≡ more_of w more)
plus_only w more = equation_only (more_of w more)

pub new_only : OnlyOne (λ (r : Sum). r ≡ no_sum)
new_only = equation_only no_sum

pub with_only : (s : Sum) (d : ℤ) → OnlyOne (λ (r : Sum). r ≡ sum_with s d)
with_only s d = equation_only (sum_with s d)

pub told_only : (s : Sum) → OnlyOne (λ (r : Option Told). r ≡ told_of (sum_of s))
told_only s = equation_only (told_of (sum_of s))
