-- No two results satisfy the promise of F, as `F_only` for each public function F. A result with lent
-- bytes is a pair of both. No contract cites this file.
-- Assumes nothing.
use Prim.Native.Nat.{ℕ}
use mathlib.Core.Path.{◌≡◌, sym, ◌∙◌}
use mathlib.Core.List.{List}
use Rattle.promise.specs.Only.{OnlyOne}
use Rattle.promise.proofs.Laws.{equation_only}
use Rattle.node.specs.declared.Node.{Node}
use Rattle.node_call.specs.declared.Request.{Request}
use Rattle.node_call.specs.declared.CallAnswer.{CallAnswer}
use Rattle.node_call.specs.Calls.{call_number}
use Rattle.node_call.specs.Called.{CalledIn}
use Rattle.node.specs.declared.NodeStep.{NodeStep}

pub call_only :
    (n : Node) (q : Request) (given before : List ℕ) →
    OnlyOne (λ (r : NodeStep CallAnswer × List ℕ). CalledIn n q given before r.0 r.1)
call_only n q given before x y p q' =
    let answer = p.answer ∙ sym q'.answer in
    let node = p.node ∙ sym q'.node in
    let bytes = p.bytes ∙ sym q'.bytes in
    λ i. (record { answer = answer i; node = node i }, bytes i)

pub number_only : (answer : CallAnswer) → OnlyOne (λ (r : ℕ). r ≡ call_number answer)
number_only answer = equation_only _
