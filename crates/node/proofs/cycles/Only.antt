-- No two results satisfy the promise of F, as `F_only` for each public function F. A result with lent
-- bytes is a pair of both. No contract cites this file.
-- Assumes nothing.
use Prim.Native.Nat.{ℕ}
use mathlib.Core.Path.{◌≡◌, sym, ap, ◌∙◌}
use mathlib.Core.List.{List}
use Rattle.promise.specs.Only.{OnlyOne}
use Rattle.promise.proofs.Laws.{equation_only}
use Rattle.clock.specs.declared.reading.VirtualLocalTime.{VirtualLocalTime}
use Rattle.node.specs.declared.Node.{Node}
use Rattle.node.specs.Cycle.{cycle_bytes, CycledIn}
use Rattle.node.specs.declared.NodeStep.{NodeStep}
use Rattle.refusal.specs.Numbers.{Outcome, outcome_number}

pub on_main_cycle_only :
    (n : Node) (t : VirtualLocalTime) (before : List ℕ) →
    OnlyOne (λ (r : NodeStep (Outcome ℕ) × List ℕ). CycledIn n t before r.0 r.1)
on_main_cycle_only n t before x y p q =
    let a = equation_only _ x.0 y.0 p.call q.call in
    let b = p.bytes ∙ ap (λ (r : NodeStep (Outcome ℕ)). cycle_bytes r.answer n t before) a ∙ sym q.bytes in
    λ i. (a i, b i)
