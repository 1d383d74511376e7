-- Demands 1 and 2, each one statement over the definitions that the promises cite. Assumes nothing.
use Rattle.std.specs.Prelude.{ℕ, ◌*◌, min, ◌≡◌, List, ◌++◌, length, take, drop, Ok}
use Rattle.clock.specs.declared.reading.VirtualLocalTime.{VirtualLocalTime}
use Rattle.frame.specs.declared.values.Fup.{Fup}
use Rattle.frame.specs.declared.values.Frame.TheVariants.{Fup as fup}
use Rattle.frame_read.specs.Read.{read_of}
use Rattle.settings.specs.declared.node_settings.NodeSettings.{NodeSettings}
use Rattle.refusal.specs.Numbers.{StateStays, outcome_number}
use Rattle.round.specs.FirstDue.{Each}
use Rattle.node.specs.declared.Node.{Node}
use Rattle.node.specs.New.{new_of}
use Rattle.node.specs.Cycle.{gone_from}
use Rattle.node.specs.Confirm.{node_confirm_of, confirmed_bytes}
use Rattle.node_call.specs.Calls.{Call, frame, cycle, node_after, sends, answer_to, number_in, lent_to, lent_after}
use Rattle.node_queue.specs.declared.NodeQueue.{NodeQueue}
use Rattle.node_queue.specs.Queue.{QueuedIn}
use Rattle.node_laws.specs.Reachable.{Reachable}
use Rattle.node_laws.specs.Due.{due_count}
use Rattle.node_laws.specs.Tests.{first_of, tests_of, queue_tests, new_tests}
use Rattle.node_laws.specs.Refused.{IsRefused, refused_by}
use Rattle.node_laws.specs.Excepted.{after_six, JoinedRow, IsExcepted, IsFrame}
use Rattle.node_laws.specs.Back.{joined, SyncBack, AcceptedBack}

-- ---- Demand 1, on every node and every argument: "The call tests in the order of the numbers, as far as each
-- concerns it." "A refused call returns the number and zeros; state and lent bytes stay." Paper 02, request 5, of 15:
-- "such a SYNC becomes the last one, joins the row and its reading is kept. This and the row set to 0 under 6 are the
-- exceptions to 'state stays' and demand 1."
pub record DemandOne : Type 0 where
  pub number : (n : Node) (c : Call) → number_in (answer_to n c) ≡ first_of (tests_of n c)
  pub new_number : (s : NodeSettings) → outcome_number (new_of s).answer ≡ first_of (new_tests s)
  pub zeros : (n : Node) (c : Call) → IsRefused n c → answer_to n c ≡ refused_by (number_in (answer_to n c)) c
  pub state : (n : Node) (c : Call) → StateStays (number_in (answer_to n c)) → node_after n c ≡ n
  pub six :
      (n : Node) (t : VirtualLocalTime) (bytes : List ℕ) → number_in (answer_to n (frame t bytes)) ≡ 6 →
      node_after n (frame t bytes) ≡ after_six n bytes
  pub fifteen :
      (n : Node) (t : VirtualLocalTime) (bytes : List ℕ) → number_in (answer_to n (frame t bytes)) ≡ 15 →
      JoinedRow n t bytes (node_after n (frame t bytes))
  pub frames : (n : Node) (c : Call) → IsExcepted n c → IsFrame c
  pub bytes : (n : Node) (c : Call) → IsRefused n c → lent_after (answer_to n c) ≡ lent_to c
  pub number_of_queue :
      (n : Node) (ts fs before : List ℕ) (r : NodeQueue) (after : List ℕ) → QueuedIn n ts fs before r after →
      outcome_number r.answer ≡ first_of (queue_tests ts fs before)
  pub queue_keeps :
      (n : Node) (ts fs before : List ℕ) (r : NodeQueue) (after : List ℕ) → QueuedIn n ts fs before r after →
      (outcome_number r.answer ≡ 0 → ⊥) → (r.node ≡ n) × (after ≡ before)

-- ---- the frames of a main cycle that is not refused stand one after another in its buffer, the rest of which stays
abbrev pub SyncsStand : Node → VirtualLocalTime → (out : List ℕ) → Type 0
SyncsStand n t out =
    let count = min n.syncs_per_cycle (due_count n.domains t) in
    number_in (answer_to n (cycle t out)) ≡ 0 →
    answer_to n (cycle t out) ≡ sends 0 count (joined (gone_from n t).frames ++ drop (8 * count) out)

-- ---- the FUP of a confirmation that is not refused is the first 8 bytes of its buffer, and is read as its values
abbrev pub FupBack : Node → (domain : ℕ) → VirtualLocalTime → (counter : ℕ) (out : List ℕ) → Type 0
FupBack n domain t counter out =
    let answer = (node_confirm_of n domain t counter (length out)).answer in
    (f : Fup) → answer ≡ Ok f → read_of (take 8 (confirmed_bytes answer n domain out)) ≡ Ok (fup f)

-- ---- Demand 2: "What a master writes is read back as the same values, and an accepted frame with a right check
-- byte, if it has one, and zero reserved bits is written back from its values byte for byte."
pub record DemandTwo : Type 0 where
  pub written : (n : Node) (t : VirtualLocalTime) (out : List ℕ) → SyncsStand n t out
  pub syncs : (n : Node) → Reachable n → (t : VirtualLocalTime) → Each (SyncBack n.domains t) (gone_from n t).frames
  pub fups :
      (n : Node) → Reachable n → (domain : ℕ) (t : VirtualLocalTime) (counter : ℕ) (out : List ℕ) →
      FupBack n domain t counter out
  pub accepted : (n : Node) (t : VirtualLocalTime) (bytes : List ℕ) → AcceptedBack n t bytes
