-- No two results satisfy the promise of F, as `F_only` for each public function F. No contract cites this file.
-- Assumes nothing.
use Prim.Native.Nat.{ℕ}
use mathlib.Core.Path.{◌≡◌}
use Rattle.promise.specs.Only.{OnlyOne}
use Rattle.promise.proofs.Laws.{equation_only}
use Rattle.sheet_tally.specs.declared.Tally.{Tally}
use Rattle.sheet_tally.specs.Tally.{no_tally, column_of, counted_of}
use Rattle.refusal.specs.Numbers.{Outcome}
use Rattle.slave_answer.specs.declared.Taken.{Taken}

pub new_only : OnlyOne (λ (r : Tally). r ≡ no_tally)
new_only = equation_only no_tally

pub counted_only : (t : Tally) (answer : Outcome Taken) → OnlyOne (λ (r : Tally). r ≡ counted_of t answer)
counted_only t answer = equation_only (counted_of t answer)

pub column_of_only : (answer : Outcome Taken) → OnlyOne (λ (r : ℕ). r ≡ column_of answer)
column_of_only answer = equation_only (column_of answer)
