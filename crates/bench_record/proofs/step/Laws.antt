-- Laws of a record's call and of its end. No contract cites this file.
--   answered      the call ensures the node, the answer and the lent bytes, and the line is of those
--   bad_stepped   a record that is known to be bad ends the run
--   call_stepped  a record that is known to ask for a call is answered
-- Assumes nothing.
use Rattle.std.specs.Prelude.{None, Option, Some}
use Prim.Native.Nat.{ℕ}
use mathlib.Core.Path.{◌≡◌, refl, sym, subst}
use mathlib.Core.Bool.{true}
use mathlib.Core.List.{List}
use Rattle.text.specs.declared.Out.{Out}
use Rattle.text.specs.Text.{Wrote}
use Rattle.text.proofs.Wrote.{named}
use Rattle.node.specs.declared.Node.{Node}
use Rattle.node_call.specs.declared.Request.{Request}
use Rattle.node_call.specs.declared.CallAnswer.{CallAnswer}
use Rattle.node_call.specs.Called.{CalledIn}
use Rattle.bench_record.specs.declared.step.Step.{Step}
use Rattle.bench_record.specs.Step.{Ended, Answered, RecordStepped}
use Rattle.node.specs.declared.NodeStep.{NodeStep}

pub answered :
    (line : CallAnswer → List ℕ → List ℕ) {n : Node} {q : Request} {given lent sent : List ℕ}
    {r : NodeStep CallAnswer} {before after : Out} →
    CalledIn n q given lent r sent → Wrote (line r.answer sent) before after →
    Answered line n q given lent before (record { node = r.node; goes_on = true }) after
answered line e p =
    record {
      node = e.node;
      goes_on = refl;
      line = named (λ i. line (e.answer i) (e.bytes i)) p;
    }

module _
    (line : CallAnswer → List ℕ → List ℕ) (given : List ℕ) (lent : Request → List ℕ) (n : Node) (item : ℕ)
    {a : Option Request} {before : Out} {r : Step} {after : Out} where
  pub bad_stepped :
      a ≡ None → Ended n item before r after → RecordStepped a line given lent n item before r after
  bad_stepped e p = subst (λ x. RecordStepped x line given lent n item before r after) (sym e) p

  pub call_stepped :
      {q : Request} → a ≡ Some q → Answered line n q given (lent q) before r after →
      RecordStepped a line given lent n item before r after
  call_stepped e p = subst (λ x. RecordStepped x line given lent n item before r after) (sym e) p
