-- No two results satisfy the promise of F, as `F_only` for each public function F. No contract cites
-- this file.
-- Assumes nothing.
use Rattle.std.specs.Prelude.{⊤}
use Prim.Native.Nat.{ℕ}
use mathlib.Core.Path.{◌≡◌}
use Rattle.promise.specs.Only.{OnlyOne}
use Rattle.promise.proofs.Laws.{equation_only}
use Rattle.settings.specs.declared.node_settings.NodeSettings.{NodeSettings}
use Rattle.settings.specs.Node.{judged_of}
use Rattle.refusal.specs.Numbers.{Outcome, outcome_number}

pub judge_only : (n : NodeSettings) → OnlyOne (λ (r : Outcome ⊤). r ≡ judged_of n)
judge_only n = equation_only _
