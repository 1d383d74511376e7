-- No two results satisfy the promise of F, as `F_only` for each public function F: each promise is `Wrote` of some
-- text. A result is the place with the lent bytes, as `left` has them in `Out`. No contract cites this file.
-- Assumes nothing.
use Prim.Native.Nat.{ℕ}
use mathlib.Core.List.{List}
use lib.IntN.{ℤ}
use Rattle.std.specs.Prelude.{Option}
use Rattle.promise.specs.Only.{OnlyOne}
use Rattle.text.specs.declared.Out.{Out}
use Rattle.text.specs.Text.{Wrote}
use Rattle.text.proofs.Only.{left, wrote_only}
use Rattle.sheet_sum.specs.declared.Told.{Told}
use Rattle.sheet_line.specs.Signed.{plain_text, signed_text, told_text}

pub put_plain_only :
    (n : ℕ) (before : Out) → OnlyOne (λ (r : ℕ × List ℕ). Wrote (plain_text n) before (left before r))
put_plain_only n = wrote_only (plain_text n)

pub put_signed_only :
    (d : ℤ) (before : Out) → OnlyOne (λ (r : ℕ × List ℕ). Wrote (signed_text d) before (left before r))
put_signed_only d = wrote_only (signed_text d)

pub put_told_only :
    (told : Option Told) (before : Out) →
    OnlyOne (λ (r : ℕ × List ℕ). Wrote (told_text told) before (left before r))
put_told_only told = wrote_only (told_text told)
