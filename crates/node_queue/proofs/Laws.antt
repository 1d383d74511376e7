-- What the promise of `on_queue` says, in the request's words. No contract cites this file.
--   queue_zero            a queue with room for its numbers, at most 32 readings and eight bytes for each is taken
--   queue_stays           the bytes beyond the readings are as they were
--   queue_numbers         the byte at place i is the number of frame call i on the node after the i calls before it
--   queue_refusal_keeps   a refused queue leaves the node and every byte as they were
--   queue_one             a queue of one frame is the frame call
-- Assumes nothing.
use Rattle.std.specs.Prelude.{Err, Ok, ⊤}
use Prim.Native.Nat.{ℕ, zero, suc, ◌+◌, ◌*◌, ◌≤◌, ◌<◌}
use mathlib.Core.Path.{◌≡◌, refl, ap, ◌∙◌}
use mathlib.Core.List.{List, [], ◌∷◌, ◌++◌}
use native.Mathlib.Omega.{arith}
use lib.ListN.{length, get_or, take, drop, length-map}
use lib.Seq.{drop-drop, drop_at, take_all}
use borrow.Author.Tests.{le-leb, eq-eqb}
use Rattle.node.specs.declared.Node.{Node}
use Rattle.node_call.specs.Calls.{Call, frame, node_after, answer_to, number_in, answers_to, node_after_all}
use Rattle.node_queue.specs.declared.NodeQueue.{NodeQueue}
use Rattle.node_queue.specs.Queue.{queue_calls, call_at, queue_numbers, queue_node, queue_bytes, QueuedIn}
use Rattle.refusal.specs.Numbers.{Outcome, outcome_number}

-- ---- each at its place

number_at :
    (n : Node) (ts fs rest : List ℕ) (i d : ℕ) → i < length ts →
    get_or (queue_numbers n ts fs ++ rest) i d
    ≡ number_in (answer_to (node_after_all n (queue_calls (take i ts) fs)) (call_at ts fs i))
number_at n [] fs rest i d h = absurd (omega (arith, h))
number_at n (t ∷ ts) fs rest zero d h = refl
number_at n (t ∷ ts) fs rest (suc i) d h =
    let c = frame (record { 0 = t }) (take 8 fs) in
    let before = node_after_all (node_after n c) (queue_calls (take i ts) (drop 8 fs)) in
    let behind : 8 + 8 * i ≡ 8 * suc i = omega arith in
    number_at (node_after n c) ts (drop 8 fs) rest i d (omega (arith, h))
    ∙ ap (λ (l : List ℕ). number_in (answer_to before (frame (record { 0 = get_or ts i 0 }) (take 8 l))))
    (drop-drop (8 * i) 8 fs ∙ ap (λ (k : ℕ). drop k fs) behind)

-- ---- as many numbers as readings

answers_length : (n : Node) (cs : List Call) → length (answers_to n cs) ≡ length cs
answers_length n [] = refl
answers_length n (c ∷ rest) = ap suc (answers_length (node_after n c) rest)

calls_length : (ts fs : List ℕ) → length (queue_calls ts fs) ≡ length ts
calls_length [] fs = refl
calls_length (t ∷ ts) fs = ap suc (calls_length ts (drop 8 fs))

numbers_length : (n : Node) (ts fs : List ℕ) → length (queue_numbers n ts fs) ≡ length ts
numbers_length n ts fs =
    length-map (answers_to n (queue_calls ts fs)) number_in ∙ answers_length n (queue_calls ts fs) ∙ calls_length ts fs

module _ (n : Node) (ts fs before : List ℕ) (r : NodeQueue) (after : List ℕ) (q : QueuedIn n ts fs before r after) where
  -- the node and the bytes, by another name for the answer
  node_by : {a : Outcome ⊤} → r.answer ≡ a → r.node ≡ queue_node a n ts fs
  node_by e = q.node ∙ ap (λ (a : Outcome ⊤). queue_node a n ts fs) e

  bytes_by : {a : Outcome ⊤} → r.answer ≡ a → after ≡ queue_bytes a n ts fs before
  bytes_by e = q.bytes ∙ ap (λ (a : Outcome ⊤). queue_bytes a n ts fs before) e

  pub queue_zero : length ts ≤ length before → length ts ≤ 32 → length fs ≡ 8 * length ts → r.answer ≡ Ok tt
  queue_zero room most eight =
      q.answer
      ∙ rw (
        le-leb (length ts) (length before) room,
        le-leb (length ts) 32 most,
        eq-eqb (length fs) (8 * length ts) eight,
      )

  pub queue_stays : drop (length ts) after ≡ drop (length ts) before
  queue_stays = by r.answer refl
    where
      by : (a : Outcome ⊤) → r.answer ≡ a → drop (length ts) after ≡ drop (length ts) before
      by (Ok tt) e =
          ap (drop (length ts)) (bytes_by e)
          ∙ drop_at (queue_numbers n ts fs) (drop (length ts) before) (length ts) (numbers_length n ts fs)
      by (Err refusal) e = ap (drop (length ts)) (bytes_by e)

  pub queue_numbers_lem :
      r.answer ≡ Ok tt → (i d : ℕ) → i < length ts →
      get_or after i d ≡ number_in (answer_to (node_after_all n (queue_calls (take i ts) fs)) (call_at ts fs i))
  queue_numbers_lem e i d h =
      ap (λ (l : List ℕ). get_or l i d) (bytes_by e) ∙ number_at n ts fs (drop (length ts) before) i d h

  pub queue_refusal_keeps : (outcome_number r.answer ≡ 0 → ⊥) → (r.node ≡ n) × (after ≡ before)
  queue_refusal_keeps refused = by r.answer refl
    where
      by : (a : Outcome ⊤) → r.answer ≡ a → (r.node ≡ n) × (after ≡ before)
      by (Ok tt) e = absurd (refused (ap outcome_number e))
      by (Err refusal) e = (node_by e, bytes_by e)

pub queue_one :
    (n : Node) (t : ℕ) (fs before : List ℕ) (r : NodeQueue) (after : List ℕ) →
    QueuedIn n (t ∷ []) fs before r after → length fs ≡ 8 → 1 ≤ length before → (d : ℕ) →
    let c = frame (record { 0 = t }) fs in
    (r.answer ≡ Ok tt) × (r.node ≡ node_after n c) × (get_or after 0 d ≡ number_in (answer_to n c))
queue_one n t fs before r after q eight room d =
    let taken = queue_zero n (t ∷ []) fs before r after q (omega (arith, room)) (omega arith) (omega (arith, eight)) in
    let whole = take_all 8 fs (omega (arith, eight)) in (
      taken,
      node_by n (t ∷ []) fs before r after q taken
          ∙ ap (λ (l : List ℕ). node_after n (frame (record { 0 = t }) l)) whole,
      queue_numbers_lem n (t ∷ []) fs before r after q taken 0 d (omega arith)
          ∙ ap (λ (l : List ℕ). number_in (answer_to n (frame (record { 0 = t }) l))) whole,
    )
