-- No two results satisfy the promise of F, as `F_only` for each public function F: each promise is `Wrote` of some
-- text. A result is the place with the lent bytes, as `left` has them in `Out`. No contract cites this file.
-- Assumes nothing.
use Prim.Native.Nat.{ℕ}
use mathlib.Core.List.{List}
use Rattle.promise.specs.Only.{OnlyOne}
use Rattle.text.specs.declared.Out.{Out}
use Rattle.text.specs.Text.{Wrote}
use Rattle.text.proofs.Only.{left, wrote_only}
use Rattle.node.specs.declared.Node.{Node}
use Rattle.sheet_tally.specs.declared.Tally.{Tally}
use Rattle.sheet_tally.specs.declared.sheet.Sheet.{Sheet}
use Rattle.sheet_line.specs.Line.{line_text, sheet_text}

pub put_sheet_only :
    (n : Node) (s : Sheet) (before : Out) →
    OnlyOne (λ (r : ℕ × List ℕ). Wrote (sheet_text n s) before (left before r))
put_sheet_only n s = wrote_only (sheet_text n s)

pub put_line_only :
    (domain : ℕ) (t : Tally) (before : Out) →
    OnlyOne (λ (r : ℕ × List ℕ). Wrote (line_text domain t) before (left before r))
put_line_only domain t = wrote_only (line_text domain t)
