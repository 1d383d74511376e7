-- No two results satisfy the promise of F, as `F_only` for each public function F. A result with lent
-- bytes is a pair of both. No contract cites this file.
-- Assumes nothing.
use Rattle.std.specs.Prelude.{⊤}
use Prim.Native.Nat.{ℕ}
use mathlib.Core.Path.{◌≡◌}
use Rattle.promise.specs.Only.{OnlyOne}
use Rattle.promise.proofs.Laws.{equation_only}
use Rattle.clock.specs.declared.reading.VirtualLocalTime.{VirtualLocalTime}
use Rattle.node.specs.declared.Node.{Node}
use Rattle.node.specs.Set.{node_set_of}
use Rattle.node.specs.declared.NodeStep.{NodeStep}
use Rattle.refusal.specs.Numbers.{Outcome}

pub on_set_only :
    (n : Node) (domain : ℕ) (t : VirtualLocalTime) (s ns : ℕ) →
    OnlyOne (λ (r : NodeStep (Outcome ⊤)). r ≡ node_set_of n domain t s ns)
on_set_only n domain t s ns = equation_only _
