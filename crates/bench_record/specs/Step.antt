-- Paper 01, "Bench program": what a record makes of a run. The bench and the trial differ in what they give and lend
-- a call, and in the line of its answer. Assumes nothing.
use Rattle.std.specs.Prelude.{ℕ, ◌≡◌, Bool, true, false, List, None, Option, Some}
use Rattle.text.specs.declared.Out.{Out}
use Rattle.text.specs.Text.{Wrote}
use Rattle.text.specs.Lines.{bad_text}
use Rattle.node.specs.declared.Node.{Node}
use Rattle.node_call.specs.declared.Request.{Request}
use Rattle.node_call.specs.declared.CallAnswer.{CallAnswer}
use Rattle.node_call.specs.Calls.{node_after, answer_of, bytes_after}
use Rattle.node_call.specs.Called.{call_of}
use Rattle.bench_record.specs.declared.step.Step.{Step}

-- ---- The node after it, whether the run goes on, and its line.
pub record Stepped
    (n : Node) (on : Bool) (text : List ℕ) (before : Out) (r : Step) (after : Out) : Type 0 where
  pub node : r.node ≡ n
  pub goes_on : r.goes_on ≡ on
  pub line : Wrote text before after

-- ---- "A wrong mark or kind prints `bad record` and its number" and ends the run.
abbrev pub Ended : Node → (item : ℕ) (before : Out) → Step → Out → Type 0
Ended n item before r after = Stepped n false (bad_text item) before r after

-- ---- The call that is asked for, with what it is given and lent, and the line of its answer and of the lent bytes
-- after it.
abbrev pub Answered :
    (line : CallAnswer → List ℕ → List ℕ) → Node → Request → (given lent : List ℕ) (before : Out) →
    Step → Out → Type 0
Answered line n q given lent before r after =
    let c = call_of q given lent in
    Stepped (node_after n c) true (line (answer_of n c) (bytes_after n c lent)) before r after

-- ---- A record, by what it asks for.
abbrev pub RecordStepped :
    Option Request → (line : CallAnswer → List ℕ → List ℕ) (given : List ℕ) (lent : Request → List ℕ) →
    Node → (item : ℕ) (before : Out) → Step → Out → Type 0
RecordStepped (Some q) line given lent n item before r after = Answered line n q given (lent q) before r after
RecordStepped None line given lent n item before r after = Ended n item before r after
