-- No two results satisfy the promise of F, as `F_only` for the public function F: the promise is `Wrote` of
-- the line. No contract cites this file.
-- Assumes nothing.
use Prim.Native.Nat.{ℕ}
use mathlib.Core.List.{List}
use Rattle.promise.specs.Only.{OnlyOne}
use Rattle.text.specs.declared.Out.{Out}
use Rattle.text.specs.Text.{Wrote}
use Rattle.text.proofs.Only.{left, wrote_only}
use Rattle.node_call.specs.declared.CallAnswer.{CallAnswer}
use Rattle.bench_step.specs.BenchLine.{bench_line}

pub put_bench_line_only :
    (item : ℕ) (answer : CallAnswer) (sent : List ℕ) (before : Out) →
    OnlyOne (λ (r : ℕ × List ℕ). Wrote (bench_line item answer sent) before (left before r))
put_bench_line_only item answer sent = wrote_only (bench_line item answer sent)
