-- Paper 02, request 4, on a node in words. Assumes nothing.
use Rattle.std.specs.Prelude.{ℕ, ◌≡◌, List, [], ◌∷◌, ◌++◌, length, take, drop, Err, Ok, ⊤}
use Rattle.node_queue.specs.Queue.{queue_answer}
use Rattle.words_frame.specs.Frame.{called_in, frame_words}
use Rattle.refusal.specs.Numbers.{Outcome, outcome_number}

-- ---- "frame-by-frame calls in that order": the words after them, and the number of each
abbrev pub frames_words : List ℕ → (readings frames : List ℕ) → List ℕ
frames_words words [] fs = words
frames_words words (t ∷ ts) fs = frames_words (frame_words words t (take 8 fs)) ts (drop 8 fs)

abbrev pub frames_numbers : List ℕ → (readings frames : List ℕ) → List ℕ
frames_numbers words [] fs = []
frames_numbers words (t ∷ ts) fs =
    outcome_number (called_in words t (take 8 fs)).answer
    ∷ frames_numbers (frame_words words t (take 8 fs)) ts (drop 8 fs)

-- ---- "then nothing is taken"
abbrev pub queue_words : Outcome ⊤ → List ℕ → (readings frames : List ℕ) → List ℕ
queue_words (Ok tt) words ts fs = frames_words words ts fs
queue_words (Err refusal) words ts fs = words

abbrev pub queue_numbers : Outcome ⊤ → List ℕ → (readings frames before : List ℕ) → List ℕ
queue_numbers (Ok tt) words ts fs before = frames_numbers words ts fs ++ drop (length ts) before
queue_numbers (Err refusal) words ts fs before = before

-- ---- The promise: the number, every word, and every lent byte.
pub record QueuedIn
    (words ts fs before : List ℕ) (r : ℕ) (after : List ℕ) (answers : List ℕ) : Type 0 where
  pub number : r ≡ outcome_number (queue_answer (length ts) (length fs) (length before))
  pub words_after : after ≡ queue_words (queue_answer (length ts) (length fs) (length before)) words ts fs
  pub bytes : answers ≡ queue_numbers (queue_answer (length ts) (length fs) (length before)) words ts fs before
