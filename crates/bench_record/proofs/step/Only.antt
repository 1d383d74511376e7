-- No two results satisfy the promise of F, as `F_only` for the public function F; nor a promise that is `Stepped`, or
-- `RecordStepped`. A result is the step, with the place and the lent bytes that `Out` is left with. No contract cites
-- this file.
-- Assumes nothing.
use Rattle.std.specs.Prelude.{None, Option, Some}
use Prim.Native.Nat.{ℕ}
use mathlib.Core.Path.{sym, ◌∙◌}
use mathlib.Core.Bool.{Bool, false}
use mathlib.Core.List.{List}
use Rattle.promise.specs.Only.{OnlyOne}
use Rattle.text.specs.Lines.{bad_text}
use Rattle.text.specs.declared.Out.{Out}
use Rattle.text.proofs.Only.{left, wrote_only}
use Rattle.node.specs.declared.Node.{Node}
use Rattle.node_call.specs.declared.Request.{Request}
use Rattle.node_call.specs.declared.CallAnswer.{CallAnswer}
use Rattle.bench_record.specs.declared.step.Step.{Step}
use Rattle.bench_record.specs.Step.{Stepped, Ended, RecordStepped}

-- the node and whether the run goes on are equations, and the place and the bytes are those of one text
pub stepped_only :
    (n : Node) (on : Bool) (text : List ℕ) (before : Out) →
    OnlyOne (λ (r : Step × (ℕ × List ℕ)). Stepped n on text before r.0 (left before r.1))
stepped_only n on text before x y p q =
    let line = wrote_only text before x.1 y.1 p.line q.line in
    λ i. (
      record {
        node = (p.node ∙ sym q.node) i;
        goes_on = (p.goes_on ∙ sym q.goes_on) i;
      },
      line i,
    )

pub bad_record_only :
    (n : Node) (item : ℕ) (before : Out) →
    OnlyOne (λ (r : Step × (ℕ × List ℕ)). Ended n item before r.0 (left before r.1))
bad_record_only n item = stepped_only n false (bad_text item)

pub record_stepped_only :
    (a : Option Request) (line : CallAnswer → List ℕ → List ℕ) (given : List ℕ) (lent : Request → List ℕ)
    (n : Node) (item : ℕ) (before : Out) →
    OnlyOne (λ (r : Step × (ℕ × List ℕ)). RecordStepped a line given lent n item before r.0 (left before r.1))
record_stepped_only (Some q) line given lent n item before = stepped_only _ _ _ before
record_stepped_only None line given lent n item before = bad_record_only n item before
