-- No two results satisfy the promise of F, as `F_only` for each public function F. A result with lent
-- bytes is a pair of both. No contract cites this file.
-- Assumes nothing.
use Rattle.std.specs.Prelude.{⊤}
use Prim.Native.Nat.{ℕ}
use mathlib.Core.Path.{◌≡◌, sym, ap, ◌∙◌}
use mathlib.Core.List.{List}
use Rattle.promise.specs.Only.{OnlyOne}
use Rattle.promise.proofs.Laws.{equation_only}
use Rattle.node.specs.declared.Node.{Node}
use Rattle.node_queue.specs.declared.NodeQueue.{NodeQueue}
use Rattle.node_queue.specs.Queue.{queue_answer, queue_node, queue_bytes, QueuedIn}
use Rattle.refusal.specs.Numbers.{Outcome, outcome_number}

pub on_queue_only :
    (n : Node) (ts fs before : List ℕ) →
    OnlyOne (λ (r : NodeQueue × List ℕ). QueuedIn n ts fs before r.0 r.1)
on_queue_only n ts fs before x y p q =
    let answer = p.answer ∙ sym q.answer in
    let node = p.node ∙ ap (λ a. queue_node a n ts fs) answer ∙ sym q.node in
    let bytes = p.bytes ∙ ap (λ a. queue_bytes a n ts fs before) answer ∙ sym q.bytes in
    λ i. (record { answer = answer i; node = node i }, bytes i)

pub judge_only : (readings bytes room : ℕ) → OnlyOne (λ (r : Outcome ⊤). r ≡ queue_answer readings bytes room)
judge_only readings bytes room = equation_only _
