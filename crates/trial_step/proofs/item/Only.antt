-- No two results satisfy the promise of F, as `F_only` for each public function F. No contract cites
-- this file.
-- Assumes nothing.
use Prim.Native.Nat.{ℕ}
use mathlib.Core.Path.{◌≡◌}
use mathlib.Core.List.{List}
use Rattle.promise.specs.Only.{OnlyOne}
use Rattle.promise.proofs.Laws.{equation_only}
use Rattle.trial_step.specs.declared.item.Item.{Item}
use Rattle.trial_step.specs.Item.{item_of, item_length}

pub item_of_only : (bytes : List ℕ) → OnlyOne (λ (r : Item). r ≡ item_of bytes)
item_of_only bytes = equation_only _

pub item_length_only : (bytes : List ℕ) → OnlyOne (λ (r : ℕ). r ≡ item_length bytes)
item_length_only bytes = equation_only _
