-- No two results satisfy the promise of F, as `F_only` for each public function F. A result with lent
-- bytes is a pair of both. No contract cites this file.
-- Assumes nothing.
use Prim.Native.Nat.{ℕ}
use mathlib.Core.Path.{◌≡◌}
use mathlib.Core.List.{List}
use Rattle.promise.specs.Only.{OnlyOne}
use Rattle.promise.proofs.Laws.{equation_only}
use Rattle.clock.specs.declared.reading.VirtualLocalTime.{VirtualLocalTime}
use Rattle.node.specs.declared.Node.{Node}
use Rattle.node.specs.Frame.{node_frame_of}
use Rattle.node.specs.declared.NodeStep.{NodeStep}
use Rattle.refusal.specs.Numbers.{Outcome}
use Rattle.slave_answer.specs.declared.Taken.{Taken}

pub on_frame_only :
    (n : Node) (t : VirtualLocalTime) (bytes : List ℕ) → OnlyOne (λ (r : NodeStep (Outcome Taken)). r ≡ node_frame_of n t bytes)
on_frame_only n t bytes = equation_only _
