-- What is left of a queue decides it: the invariant of `queue_in`, kept by a frame.
--   Rest      what is left of the queue gives what all of it gives
--   onward    what is left gives it still after one frame
--   queued    the promise, by another name for the answer
--   at_end    so that with none left the queue is taken
-- Assumes nothing.
use Rattle.std.specs.Prelude.{Ok, ⊤}
use Prim.Native.Nat.{ℕ, ◌+◌, ◌-◌, ◌*◌, ◌<◌}
use mathlib.Core.Path.{◌≡◌, refl, sym, ap, ◌∙◌}
use mathlib.Core.List.{List, [], ◌∷◌, ◌++◌, append-nil}
use native.Mathlib.Numerals.{add-one}
use native.Mathlib.Omega.{arith}
use lib.ListN.{length, get_or, set, take, drop, take-append-drop}
use lib.Seq.{append_snoc, drop-cons, drop-drop, drop-length, drop-set-lt, take-suc-set}
use Rattle.node_queue.specs.Queue.{queue_answer}
use Rattle.words_frame.specs.Frame.{called_in, frame_words, TakenIn}
use Rattle.words_frame.specs.Queue.{frames_words, frames_numbers, queue_words, queue_numbers, QueuedIn}
use Rattle.refusal.specs.Numbers.{Outcome, outcome_number}
use Rattle.slave_answer.specs.declared.Taken.{Taken}

pub record Rest (whole filled ts fs : List ℕ) (i : ℕ) (words out : List ℕ) : Type 0 where
  pub words_after : frames_words words (drop i ts) (drop (8 * i) fs) ≡ whole
  pub bytes : take i out ++ frames_numbers words (drop i ts) (drop (8 * i) fs) ++ drop (length ts) out ≡ filled

module _ (whole filled ts fs : List ℕ) (i : ℕ) (words out : List ℕ) (answer : Outcome Taken) (words' : List ℕ) (b : ℕ)
    (h : i < length ts) (room : i < length out)
    (taken : TakenIn words (get_or ts i 0) (take (8 * i + 8 - 8 * i) (drop (8 * i) fs)) answer words')
    (number : b ≡ outcome_number answer) where
  -- ---- the frame at the place, the reading there, and what is behind them

  frame : take (8 * i + 8 - 8 * i) (drop (8 * i) fs) ≡ take 8 (drop (8 * i) fs)
  frame =
      let eight : 8 * i + 8 - 8 * i ≡ 8 = omega arith in
      ap (λ (k : ℕ). take k (drop (8 * i) fs)) eight

  stepped : words' ≡ frame_words words (get_or ts i 0) (take 8 (drop (8 * i) fs))
  stepped = taken.words_after ∙ ap (frame_words words (get_or ts i 0)) frame

  answered : b ≡ outcome_number (called_in words (get_or ts i 0) (take 8 (drop (8 * i) fs))).answer
  answered =
      number ∙ ap outcome_number taken.answer
      ∙ ap (λ (bytes : List ℕ). outcome_number (called_in words (get_or ts i 0) bytes).answer) frame

  reading : get_or ts i 0 ∷ drop (i + 1) ts ≡ drop i ts
  reading = ap (λ (k : ℕ). get_or ts i 0 ∷ drop k ts) (add-one i) ∙ sym (drop-cons ts i 0 h)

  behind : drop (8 * (i + 1)) fs ≡ drop 8 (drop (8 * i) fs)
  behind =
      let next : 8 * (i + 1) ≡ 8 * i + 8 = omega arith in
      ap (λ (k : ℕ). drop k fs) next ∙ sym (drop-drop 8 (8 * i) fs)

  -- ---- what is left decides

  numbers :
      b ∷ frames_numbers words' (drop (i + 1) ts) (drop (8 * (i + 1)) fs)
      ≡ frames_numbers words (drop i ts) (drop (8 * i) fs)
  numbers =
      (λ k. answered k ∷ frames_numbers (stepped k) (drop (i + 1) ts) (behind k))
      ∙ ap (λ (l : List ℕ). frames_numbers words l (drop (8 * i) fs)) reading

  written : take (i + 1) (set out i b) ≡ take i out ++ (b ∷ [])
  written = ap (λ (k : ℕ). take k (set out i b)) (add-one i) ∙ take-suc-set out i b room

  pub onward : Rest whole filled ts fs i words out → Rest whole filled ts fs (i + 1) words' (set out i b)
  onward r =
      let left = frames_numbers words' (drop (i + 1) ts) (drop (8 * (i + 1)) fs) in
      record {
        words_after =
            (λ k. frames_words (stepped k) (drop (i + 1) ts) (behind k))
            ∙ ap (λ (l : List ℕ). frames_words words l (drop (8 * i) fs)) reading ∙ r.words_after;
        bytes =
            (λ k. written k ++ left ++ drop-set-lt (length ts) out i b h k)
            ∙ ap (λ (l : List ℕ). l ++ drop (length ts) out)
            (append_snoc (take i out) b left ∙ ap (λ (l : List ℕ). take i out ++ l) numbers)
            ∙ r.bytes;
      }

module _ (words ts fs before : List ℕ) where
  pub queued :
      (a : Outcome ⊤) (r : ℕ) (after out : List ℕ) → a ≡ queue_answer (length ts) (length fs) (length before) →
      r ≡ outcome_number a → after ≡ queue_words a words ts fs → out ≡ queue_numbers a words ts fs before →
      QueuedIn words ts fs before r after out
  queued a r after out e number words_after bytes =
      record {
        number = number ∙ ap outcome_number e;
        words_after = words_after ∙ ap (λ (a : Outcome ⊤). queue_words a words ts fs) e;
        bytes = bytes ∙ ap (λ (a : Outcome ⊤). queue_numbers a words ts fs before) e;
      }

  pub at_end :
      (i : ℕ) (after out : List ℕ) → i ≡ length ts → (Ok tt) ≡ queue_answer (length ts) (length fs) (length before) →
      Rest (queue_words (Ok tt) words ts fs) (queue_numbers (Ok tt) words ts fs before) ts fs i after out →
      QueuedIn words ts fs before 0 after out
  at_end i after out e taken r =
      let none = ap (λ (k : ℕ). drop k ts) e ∙ drop-length ts in
      queued (Ok tt) 0 after out taken refl
      (sym (ap (λ (l : List ℕ). frames_words after l (drop (8 * i) fs)) none) ∙ r.words_after)
      (sym (take-append-drop i out) ∙ ap (λ (l : List ℕ). l ++ drop i out) (sym (append-nil (take i out)))
      ∙ ap (λ (k : ℕ). take i out ++ [] ++ drop k out) e
      ∙ sym (ap (λ (l : List ℕ). take i out ++ frames_numbers after l (drop (8 * i) fs) ++ drop (length ts) out) none)
      ∙ r.bytes)
