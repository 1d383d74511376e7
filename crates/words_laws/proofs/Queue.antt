-- A receive queue on the words of a node is the queue on the node that they say. No contract cites this file.
--   queue_size      the words keep their size
--   queue_node      the words after say the node after
--   queue_numbers   the lent bytes are the node's
--   queue_of_node   on the words of a node that fits, the words after are those of the node after
-- Assumes nothing.
use Rattle.std.specs.Prelude.{Err, Ok, ⊤}
use Prim.Native.Nat.{ℕ}
use mathlib.Core.Path.{◌≡◌, refl, ap, ◌∙◌}
use mathlib.Core.List.{List, [], ◌∷◌, ◌++◌}
use lib.ListN.{length, take, drop}
use Rattle.frame_laws.specs.RoundTrip.{AreBytes}
use Rattle.node.specs.declared.Node.{Node}
use Rattle.node.specs.Frame.{node_frame_of}
use Rattle.node_call.specs.Calls.{node_after_all}
use Rattle.node_queue.specs.Queue.{queue_calls, queue_numbers as nodeNumbers, queue_node, queue_bytes}
use Rattle.node_laws.specs.Reachable.{AreCalls}
use Rattle.node_laws.proofs.Queue.{queue_calls_lem}
use Rattle.node_words.specs.Words.{node_size}
use Rattle.node_words.specs.Node.{node_of, node_words, NodeFits}
use Rattle.words_frame.specs.Frame.{frame_words}
use Rattle.words_frame.specs.Queue.{frames_words, frames_numbers, queue_words, queue_numbers}
use Rattle.words_laws.proofs.Calls.{frame_answer, frame_node, frame_size}
use Rattle.words_laws.proofs.CallsOfNode.{frame_of_node, frame_fits}
use Rattle.refusal.specs.Numbers.{Outcome, outcome_number}
use Rattle.slave_answer.specs.declared.Taken.{Taken}

-- ---- frame by frame

frames_size :
    (words : List ℕ) → length words ≡ node_size → (ts fs : List ℕ) → length (frames_words words ts fs) ≡ node_size
frames_size words size [] fs = size
frames_size words size (t ∷ ts) fs =
    frames_size (frame_words words t (take 8 fs)) (frame_size words t (take 8 fs) size) ts (drop 8 fs)

frames_node :
    (words : List ℕ) → length words ≡ node_size → (ts fs : List ℕ) → AreCalls (queue_calls ts fs) →
    node_of (frames_words words ts fs) ≡ node_after_all (node_of words) (queue_calls ts fs)
frames_node words size [] fs are = refl
frames_node words size (t ∷ ts) fs are =
    let bytes = take 8 fs in
    frames_node (frame_words words t bytes) (frame_size words t bytes size) ts (drop 8 fs) are.1
    ∙ ap (λ (n : Node). node_after_all n (queue_calls ts (drop 8 fs))) (frame_node words t bytes size are.0)

frames_numbers_lem :
    (words : List ℕ) → length words ≡ node_size → (ts fs : List ℕ) → AreCalls (queue_calls ts fs) →
    frames_numbers words ts fs ≡ nodeNumbers (node_of words) ts fs
frames_numbers_lem words size [] fs are = refl
frames_numbers_lem words size (t ∷ ts) fs are =
    let bytes = take 8 fs in
    let after = frame_words words t bytes in
    ap (λ (a : Outcome Taken). outcome_number a ∷ frames_numbers after ts (drop 8 fs)) (frame_answer words t bytes)
    ∙ ap (λ (l : List ℕ). outcome_number (node_frame_of (node_of words) (record { 0 = t }) bytes).answer ∷ l)
    (frames_numbers_lem after (frame_size words t bytes size) ts (drop 8 fs) are.1
    ∙ ap (λ (n : Node). nodeNumbers n ts (drop 8 fs)) (frame_node words t bytes size are.0))

frames_of_node :
    (n : Node) → NodeFits n → (ts fs : List ℕ) → AreCalls (queue_calls ts fs) →
    frames_words (node_words n) ts fs ≡ node_words (node_after_all n (queue_calls ts fs))
frames_of_node n f [] fs are = refl
frames_of_node n f (t ∷ ts) fs are =
    let bytes = take 8 fs in
    ap (λ (l : List ℕ). frames_words l ts (drop 8 fs)) (frame_of_node n f t bytes are.0)
    ∙ frames_of_node (node_frame_of n (record { 0 = t }) bytes).node (frame_fits n f t bytes are.0) ts (drop 8 fs)
    are.1

-- ---- a queue, taken or refused

module _ (words : List ℕ) (size : length words ≡ node_size) (ts fs : List ℕ) where
  pub queue_size : (answer : Outcome ⊤) → length (queue_words answer words ts fs) ≡ node_size
  queue_size (Ok tt) = frames_size words size ts fs
  queue_size (Err refusal) = size

  pub queue_node_lem :
      AreBytes fs → (answer : Outcome ⊤) →
      node_of (queue_words answer words ts fs) ≡ queue_node answer (node_of words) ts fs
  queue_node_lem are (Ok tt) = frames_node words size ts fs (queue_calls_lem ts fs are)
  queue_node_lem are (Err refusal) = refl

  pub queue_numbers_lem :
      AreBytes fs → (answer : Outcome ⊤) (before : List ℕ) →
      queue_numbers answer words ts fs before ≡ queue_bytes answer (node_of words) ts fs before
  queue_numbers_lem are (Ok tt) before =
      ap (λ (l : List ℕ). l ++ drop (length ts) before) (frames_numbers_lem words size ts fs (queue_calls_lem ts fs are))
  queue_numbers_lem are (Err refusal) before = refl

pub queue_of_node :
    (n : Node) → NodeFits n → (ts fs : List ℕ) → AreBytes fs → (answer : Outcome ⊤) →
    queue_words answer (node_words n) ts fs ≡ node_words (queue_node answer n ts fs)
queue_of_node n f ts fs are (Ok tt) = frames_of_node n f ts fs (queue_calls_lem ts fs are)
queue_of_node n f ts fs are (Err refusal) = refl
