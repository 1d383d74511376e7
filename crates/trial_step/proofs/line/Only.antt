-- No two results satisfy the promise of F, as `F_only` for each public function F: the promise is `Wrote` of
-- the line. No contract cites this file.
-- Assumes nothing.
use Rattle.std.specs.Prelude.{⊤}
use Prim.Native.Nat.{ℕ}
use mathlib.Core.List.{List}
use Rattle.promise.specs.Only.{OnlyOne}
use Rattle.text.specs.declared.Out.{Out}
use Rattle.text.specs.Text.{Wrote}
use Rattle.text.proofs.Only.{left, wrote_only}
use Rattle.node_call.specs.declared.CallAnswer.{CallAnswer}
use Rattle.trial_step.specs.TrialLine.{trial_line, queue_line}
use Rattle.refusal.specs.Numbers.{Outcome}

pub put_trial_line_only :
    (item : ℕ) (answer : CallAnswer) (buffer : List ℕ) (before : Out) →
    OnlyOne (λ (r : ℕ × List ℕ). Wrote (trial_line item answer buffer) before (left before r))
put_trial_line_only item answer buffer = wrote_only (trial_line item answer buffer)

pub put_queue_line_only :
    (item : ℕ) (answer : Outcome ⊤) (buffer : List ℕ) (before : Out) →
    OnlyOne (λ (r : ℕ × List ℕ). Wrote (queue_line item answer buffer) before (left before r))
put_queue_line_only item answer buffer = wrote_only (queue_line item answer buffer)
