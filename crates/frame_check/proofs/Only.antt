-- No two results satisfy the promise of F, as `F_only` for each public function F. No contract cites
-- this file.
-- Assumes nothing.
use Prim.Native.Nat.{ℕ}
use mathlib.Core.Path.{◌≡◌}
use mathlib.Core.Bool.{Bool}
use mathlib.Core.List.{List}
use Rattle.promise.specs.Only.{OnlyOne}
use Rattle.promise.proofs.Laws.{equation_only}
use Rattle.frame.specs.declared.data_ids.DataIds.{DataIds}
use Rattle.frame_check.specs.declared.CheckMode.{CheckMode}
use Rattle.frame_check.specs.Check.{is_taken}

pub takes_only :
    (mode : CheckMode) (ids : DataIds) (bytes : List ℕ) → OnlyOne (λ (r : Bool). r ≡ is_taken mode ids bytes)
takes_only mode ids bytes = equation_only _
