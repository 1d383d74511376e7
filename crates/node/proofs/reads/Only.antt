-- No two results satisfy the promise of F, as `F_only` for each public function F. A result with lent
-- bytes is a pair of both. No contract cites this file.
-- Assumes nothing.
use Prim.Native.Nat.{ℕ}
use mathlib.Core.Path.{◌≡◌}
use Rattle.promise.specs.Only.{OnlyOne}
use Rattle.promise.proofs.Laws.{equation_only}
use Rattle.clock.specs.declared.reading.VirtualLocalTime.{VirtualLocalTime}
use Rattle.node.specs.declared.Node.{Node}
use Rattle.node.specs.Read.{node_read_of}
use Rattle.call_read.specs.declared.Shown.{Shown}
use Rattle.refusal.specs.Numbers.{Outcome}

pub on_read_only :
    (n : Node) (domain : ℕ) (t : VirtualLocalTime) → OnlyOne (λ (r : Outcome Shown). r ≡ node_read_of n domain t)
on_read_only n domain t = equation_only _
