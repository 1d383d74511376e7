-- No two results satisfy the promise of F, as `F_only` for each public function F. No contract cites
-- this file.
-- Assumes nothing.
use Prim.Native.Nat.{ℕ}
use mathlib.Core.Path.{◌≡◌}
use Rattle.promise.specs.Only.{OnlyOne}
use Rattle.promise.proofs.Laws.{equation_only}
use Rattle.refusal.specs.declared.Refusal.{Refusal}
use Rattle.refusal.specs.Numbers.{number_of, Outcome, outcome_number}

pub number_only : (refusal : Refusal) → OnlyOne (λ (r : ℕ). r ≡ number_of refusal)
number_only refusal = equation_only _

pub outcome_number_only : {A : Type 0} (outcome : Outcome A) → OnlyOne (λ (r : ℕ). r ≡ outcome_number outcome)
outcome_number_only outcome = equation_only _
