-- No two results satisfy the promise of `put_report`, which is `Wrote` of its text. No contract cites this file.
-- Assumes nothing.
use Prim.Native.Nat.{ℕ}
use mathlib.Core.List.{List}
use Rattle.promise.specs.Only.{OnlyOne}
use Rattle.text.specs.declared.Out.{Out}
use Rattle.text.specs.Text.{Wrote}
use Rattle.text.proofs.Only as text_laws
use Rattle.sheet_step.specs.declared.Account.{Account}
use Rattle.sheet_step.specs.Report.{report_text}

pub put_report_only :
    (a : Account) (left : ℕ) (before : Out) →
    OnlyOne (λ (r : ℕ × List ℕ). Wrote (report_text a left) before (text_laws.left before r))
put_report_only a left = text_laws.wrote_only (report_text a left)
