-- No two results satisfy the promise of F, as `F_only` for the public function F: the promise is `Wrote` of the text.
-- No contract cites this file.
-- Assumes nothing.
use Prim.Native.Nat.{ℕ}
use mathlib.Core.List.{List}
use Rattle.promise.specs.Only.{OnlyOne}
use Rattle.text.specs.declared.Out.{Out}
use Rattle.text.specs.Text.{Wrote}
use Rattle.text.proofs.Only.{left, wrote_only}
use Rattle.call_read.specs.declared.Shown.{Shown}
use Rattle.bench_record.specs.Line.{shown_text}

pub put_shown_only :
    (shown : Shown) (before : Out) →
    OnlyOne (λ (r : ℕ × List ℕ). Wrote (shown_text shown) before (left before r))
put_shown_only shown = wrote_only (shown_text shown)
