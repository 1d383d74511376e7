-- No two results satisfy the promise of F, as `F_only` for each public function F: each promise is `Wrote`
-- of some text. No contract cites this file.
-- Assumes nothing.
use Prim.Native.Nat.{ℕ}
use mathlib.Core.List.{List}
use Rattle.promise.specs.Only.{OnlyOne}
use Rattle.clock.specs.declared.time.GlobalTime.{GlobalTime}
use Rattle.text.specs.declared.Out.{Out}
use Rattle.text.specs.Text.{Wrote}
use Rattle.text.proofs.Only.{left, wrote_only}
use Rattle.text.specs.Lines.{answer_text, time_text, bad_text, cut_text}

pub put_answer_only :
    (item number : ℕ) (before : Out) →
    OnlyOne (λ (r : ℕ × List ℕ). Wrote (answer_text item number) before (left before r))
put_answer_only item number = wrote_only (answer_text item number)

pub put_time_only :
    (time : GlobalTime) (before : Out) →
    OnlyOne (λ (r : ℕ × List ℕ). Wrote (time_text time) before (left before r))
put_time_only time = wrote_only (time_text time)

pub put_bad_only :
    (item : ℕ) (before : Out) →
    OnlyOne (λ (r : ℕ × List ℕ). Wrote (bad_text item) before (left before r))
put_bad_only item = wrote_only (bad_text item)

pub put_cut_only :
    (item : ℕ) (before : Out) →
    OnlyOne (λ (r : ℕ × List ℕ). Wrote (cut_text item) before (left before r))
put_cut_only item = wrote_only (cut_text item)
