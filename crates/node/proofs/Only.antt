-- No two results satisfy the promise of F, as `F_only` for each public function F. A result with lent
-- bytes is a pair of both. No contract cites this file.
-- Assumes nothing.
use Rattle.std.specs.Prelude.{⊤}
use mathlib.Core.Path.{◌≡◌}
use Rattle.promise.specs.Only.{OnlyOne}
use Rattle.promise.proofs.Laws.{equation_only}
use Rattle.settings.specs.declared.node_settings.NodeSettings.{NodeSettings}
use Rattle.node.specs.New.{new_of}
use Rattle.node.specs.declared.NodeStep.{NodeStep}
use Rattle.refusal.specs.Numbers.{Outcome}

pub new_only : (s : NodeSettings) → OnlyOne (λ (r : NodeStep (Outcome ⊤)). r ≡ new_of s)
new_only s = equation_only _
