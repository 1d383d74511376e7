-- Any call to a node as the code has it, a request with the frame's bytes and the lent buffer beside it. Assumes
-- nothing.
use Rattle.std.specs.Prelude.{ℕ, ◌≡◌, List}
use Rattle.node.specs.declared.Node.{Node}
use Rattle.node_call.specs.declared.Request.{Request}
use Rattle.node_call.specs.declared.Request.TheVariants as asked
use Rattle.node_call.specs.Calls.{Call, frame, read, set, cycle, confirm, node_after, answer_of, bytes_after}
use Rattle.node.specs.declared.NodeStep.{NodeStep}
use Rattle.node_call.specs.declared.CallAnswer.{CallAnswer}

-- ---- The call that a request is.
abbrev pub call_of : Request → (bytes out : List ℕ) → Call
call_of (asked.Frame t) bytes out = frame t bytes
call_of (asked.Read domain t) bytes out = read domain t
call_of (asked.Set domain t s ns) bytes out = set domain t s ns
call_of (asked.Cycle t) bytes out = cycle t out
call_of (asked.Confirm domain t counter) bytes out = confirm domain t counter out

-- ---- The promise: the answer, the node, and every lent byte.
pub record CalledIn
    (n : Node) (q : Request) (given before : List ℕ) (r : NodeStep CallAnswer) (after : List ℕ) : Type 0 where
  pub answer : r.answer ≡ answer_of n (call_of q given before)
  pub node : r.node ≡ node_after n (call_of q given before)
  pub bytes : after ≡ bytes_after n (call_of q given before) before
