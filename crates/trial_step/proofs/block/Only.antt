-- No two results satisfy the promise of F, as `F_only` for each public function F. No contract cites
-- this file.
-- Assumes nothing.
use Prim.Native.Nat.{ℕ}
use mathlib.Core.Path.{◌≡◌}
use mathlib.Core.List.{List}
use Rattle.promise.specs.Only.{OnlyOne}
use Rattle.promise.proofs.Laws.{equation_only}
use Rattle.settings.specs.declared.node_settings.NodeSettings.{NodeSettings}
use Rattle.trial_step.specs.Block.{settings_of}

pub settings_of_only : (item : List ℕ) → OnlyOne (λ (r : NodeSettings). r ≡ settings_of item)
settings_of_only item = equation_only _
