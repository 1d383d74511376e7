-- Paper 02, request 4: a whole receive queue at once. Assumes nothing.
use Rattle.std.specs.Prelude.{ℕ, ◌*◌, ◌≡◌, Bool, cond, ◌&&◌, List, [], ◌∷◌, ◌++◌, map, leb, eqb, length, get_or, take, drop, Err, Ok, ⊤}
use Rattle.refusal.specs.declared.Refusal.TheVariants.{Length, NoRoom}
use Rattle.refusal.specs.Numbers.{number_of, Outcome}
use Rattle.node.specs.declared.Node.{Node}
use Rattle.node_call.specs.Calls.{Call, frame, number_in, answers_to, node_after_all}
use Rattle.node_queue.specs.declared.NodeQueue.{NodeQueue}

-- ---- "frame-by-frame calls in that order": each reading with its eight bytes
abbrev pub queue_calls : (readings frames : List ℕ) → List Call
queue_calls [] fs = []
queue_calls (t ∷ ts) fs = frame (record { 0 = t }) (take 8 fs) ∷ queue_calls ts (drop 8 fs)

-- ---- the one at place i
abbrev pub call_at : (readings frames : List ℕ) (i : ℕ) → Call
call_at ts fs i = frame (record { 0 = get_or ts i 0 }) (take 8 (drop (8 * i) fs))

-- ---- "one answer number per frame in a lent buffer"
abbrev pub queue_numbers : Node → (readings frames : List ℕ) → List ℕ
queue_numbers n ts fs = map number_in (answers_to n (queue_calls ts fs))

-- ---- 2 "if that number is above 32 or the frame bytes aren't eight times it"
abbrev pub is_queue : (readings bytes : ℕ) → Bool
is_queue readings bytes = leb readings 32 && eqb bytes (8 * readings)

-- ---- "12 first, if the answer buffer is shorter than the number of readings; then 2"
abbrev pub queue_answer : (readings bytes room : ℕ) → Outcome ⊤
queue_answer readings bytes room =
    cond (leb readings room) (cond (is_queue readings bytes) (Ok tt) (Err Length)) (Err NoRoom)

-- ---- "State and answers must be what frame-by-frame calls in that order give"; "then nothing is taken"
abbrev pub queue_node : Outcome ⊤ → Node → (readings frames : List ℕ) → Node
queue_node (Ok tt) n ts fs = node_after_all n (queue_calls ts fs)
queue_node (Err refusal) n ts fs = n

abbrev pub queue_bytes : Outcome ⊤ → Node → (readings frames before : List ℕ) → List ℕ
queue_bytes (Ok tt) n ts fs before = queue_numbers n ts fs ++ drop (length ts) before
queue_bytes (Err refusal) n ts fs before = before

-- ---- The promise: the answer, the node, and every lent byte.
pub record QueuedIn (n : Node) (ts fs before : List ℕ) (r : NodeQueue) (after : List ℕ) : Type 0 where
  pub answer : r.answer ≡ queue_answer (length ts) (length fs) (length before)
  pub node : r.node ≡ queue_node r.answer n ts fs
  pub bytes : after ≡ queue_bytes r.answer n ts fs before
