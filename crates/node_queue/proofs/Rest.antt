-- What is left of a queue decides it: the invariant of `on_queue`, kept by a frame.
--   Rest         what is left of the queue gives what all of it gives
--   calls_left   the frame call at a place, and then the calls behind it
--   onward       what is left gives it still after one frame
--   at_end       so that with none left the queue is taken
-- Assumes nothing.
use Rattle.std.specs.Prelude.{Ok}
use Prim.Native.Nat.{ℕ, ◌+◌, ◌*◌, ◌<◌}
use mathlib.Core.Path.{◌≡◌, sym, ap, ◌∙◌}
use mathlib.Core.List.{List, [], ◌∷◌, ◌++◌, map, append-nil}
use native.Mathlib.Numerals.{add-one}
use native.Mathlib.Omega.{arith}
use lib.ListN.{length, set, take, drop, take-append-drop}
use lib.Seq.{append_snoc, drop-cons, drop-drop, drop-length, drop-set-lt, take-suc-set}
use Rattle.node.specs.declared.Node.{Node}
use Rattle.node_call.specs.Calls.{Call, node_after, answer_to, number_in, answers_to, node_after_all}
use Rattle.node_queue.specs.Queue.{queue_calls, call_at, queue_numbers, queue_answer, queue_node, queue_bytes, QueuedIn}

pub record Rest
    (whole : Node) (filled : List ℕ) (ts fs : List ℕ) (i : ℕ) (n : Node) (out : List ℕ) : Type 0 where
  pub node : node_after_all n (queue_calls (drop i ts) (drop (8 * i) fs)) ≡ whole
  pub bytes : take i out ++ queue_numbers n (drop i ts) (drop (8 * i) fs) ++ drop (length ts) out ≡ filled

-- ---- the frame call at a place, and the calls behind it

pub calls_left :
    (ts fs : List ℕ) (i : ℕ) → i < length ts →
    queue_calls (drop i ts) (drop (8 * i) fs)
    ≡ call_at ts fs i ∷ queue_calls (drop (i + 1) ts) (drop (8 * (i + 1)) fs)
calls_left ts fs i h =
    let next : 8 * i + 8 ≡ 8 * (i + 1) = omega arith in
    ap (λ (l : List ℕ). queue_calls l (drop (8 * i) fs)) (drop-cons ts i 0 h)
    ∙ ap (λ (k : ℕ). call_at ts fs i ∷ queue_calls (drop k ts) (drop 8 (drop (8 * i) fs))) (sym (add-one i))
    ∙ ap (λ (l : List ℕ). call_at ts fs i ∷ queue_calls (drop (i + 1) ts) l)
    (drop-drop 8 (8 * i) fs ∙ ap (λ (k : ℕ). drop k fs) next)

-- ---- what is left decides

module _ (whole : Node) (filled ts fs : List ℕ) (i : ℕ) (n : Node) (out : List ℕ) (n' : Node) (b : ℕ)
    (h : i < length ts) (room : i < length out) (en : n' ≡ node_after n (call_at ts fs i))
    (eb : b ≡ number_in (answer_to n (call_at ts fs i))) where
  abbrev behind : List Call
  behind = queue_calls (drop (i + 1) ts) (drop (8 * (i + 1)) fs)

  numbers : b ∷ map number_in (answers_to n' behind) ≡ queue_numbers n (drop i ts) (drop (8 * i) fs)
  numbers =
      (λ k. eb k ∷ map number_in (answers_to (en k) behind))
      ∙ sym (ap (λ (cs : List Call). map number_in (answers_to n cs)) (calls_left ts fs i h))

  written : take (i + 1) (set out i b) ≡ take i out ++ (b ∷ [])
  written = ap (λ (k : ℕ). take k (set out i b)) (add-one i) ∙ take-suc-set out i b room

  pub onward : Rest whole filled ts fs i n out → Rest whole filled ts fs (i + 1) n' (set out i b)
  onward r =
      record {
        node =
            ap (λ (m : Node). node_after_all m behind) en ∙ sym (ap (node_after_all n) (calls_left ts fs i h)) ∙ r.node;
        bytes =
            (λ k. written k ++ map number_in (answers_to n' behind) ++ drop-set-lt (length ts) out i b h k)
            ∙ ap (λ (l : List ℕ). l ++ drop (length ts) out)
            (append_snoc (take i out) b (map number_in (answers_to n' behind))
            ∙ ap (λ (l : List ℕ). take i out ++ l) numbers)
            ∙ r.bytes;
      }

pub at_end :
    (n₀ : Node) (ts fs before : List ℕ) (i : ℕ) (n : Node) (out : List ℕ) → i ≡ length ts →
    (Ok tt) ≡ queue_answer (length ts) (length fs) (length before) →
    Rest (queue_node (Ok tt) n₀ ts fs) (queue_bytes (Ok tt) n₀ ts fs before) ts fs i n out →
    QueuedIn n₀ ts fs before (record { answer = Ok tt; node = n }) out
at_end n₀ ts fs before i n out e taken r =
    let none = ap (λ (k : ℕ). drop k ts) e ∙ drop-length ts in
    record {
      answer = taken;
      node = sym (ap (λ (l : List ℕ). node_after_all n (queue_calls l (drop (8 * i) fs))) none) ∙ r.node;
      bytes =
          sym (take-append-drop i out) ∙ ap (λ (l : List ℕ). l ++ drop i out) (sym (append-nil (take i out)))
          ∙ ap (λ (k : ℕ). take i out ++ [] ++ drop k out) e
          ∙ sym (ap (λ (l : List ℕ). take i out ++ queue_numbers n l (drop (8 * i) fs) ++ drop (length ts) out) none)
          ∙ r.bytes;
    }
