-- A queue of the trial, kind 6, and its line. Assumes nothing.
use Rattle.std.specs.Prelude.{ℕ, ◌+◌, ◌*◌, min, true, List, length, get_or, take, drop, replicate}
use Rattle.text.specs.declared.Out.{Out}
use Rattle.text.specs.Fields.{pair_at, longs_at}
use Rattle.node.specs.declared.Node.{Node}
use Rattle.node_queue.specs.Queue.{queue_answer, queue_node, queue_bytes}
use Rattle.bench_record.specs.declared.step.Step.{Step}
use Rattle.bench_record.specs.Step.{Stepped}
use Rattle.trial_step.specs.TrialLine.{queue_line}

-- ---- Byte 3 is the number of readings, which follow 20 bytes.
abbrev pub given_readings : List ℕ → List ℕ
given_readings bytes = longs_at (get_or bytes 3 0) bytes 20

-- ---- Bytes 14 and 15 are the number of frame bytes, which follow the readings.
abbrev pub frame_bytes : List ℕ → ℕ
frame_bytes bytes = min (pair_at bytes 14) 4096

abbrev pub given_frames : List ℕ → List ℕ
given_frames bytes = take (frame_bytes bytes) (drop (20 + 8 * get_or bytes 3 0) bytes)

-- ---- Bytes 12 and 13 are the length of the answer buffer, which holds A5 before the call.
abbrev pub lent_answers : List ℕ → List ℕ
lent_answers bytes = replicate (min (pair_at bytes 12) 512) 0xA5

-- ---- The queue call, and the line of its answer and of the lent bytes after it.
abbrev pub QueueStepped : Node → (item : ℕ) (bytes : List ℕ) (before : Out) → Step → Out → Type 0
QueueStepped n item bytes before r after =
    let ts = given_readings bytes in
    let fs = given_frames bytes in
    let lent = lent_answers bytes in
    let answer = queue_answer (length ts) (length fs) (length lent) in
    Stepped (queue_node answer n ts fs) true (queue_line item answer (queue_bytes answer n ts fs lent)) before r after
