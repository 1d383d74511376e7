-- Laws of the trial's queue, each after what it stands on. No contract cites this file.
--   drop_min  what is behind a place is the same where the place is cut off at the end
--   part_is   the part of a list that the code takes, cut off where the list ends
--   queued    the queue call ensures the node, the answer and the lent bytes, and the line is of those
-- Assumes nothing.
use Rattle.std.specs.Prelude.{⊤}
use Prim.Native.Nat.{ℕ, ◌+◌, ◌-◌, min}
use mathlib.Core.Path.{◌≡◌, refl, sym, ap, ◌∙◌}
use mathlib.Core.Bool.{Bool, true, false}
use mathlib.Core.List.{List}
use native.Mathlib.Nat.{le_of_lt, min-eq_left, min-eq_right}
use native.Mathlib.Omega.{arith}
use lib.Dec.{leb}
use lib.ListN.{length, take, drop, length-drop, drop_of_length-le}
use lib.Seq.{take_all, take-length, drop-length}
use borrow.Author.Tests.{leb-true, leb-false}
use Rattle.text.specs.declared.Out.{Out}
use Rattle.text.specs.Text.{Wrote}
use Rattle.text.proofs.Wrote.{named}
use Rattle.node.specs.declared.Node.{Node}
use Rattle.node_queue.specs.declared.NodeQueue.{NodeQueue}
use Rattle.node_queue.specs.Queue.{queue_node, queue_bytes, QueuedIn}
use Rattle.trial_step.specs.TrialLine.{queue_line}
use Rattle.trial_step.specs.Queue.{given_readings, given_frames, lent_answers, QueueStepped}
use Rattle.refusal.specs.Numbers.{Outcome}

pub drop_min : (a : ℕ) (l : List ℕ) → drop (min a (length l)) l ≡ drop a l
drop_min a l = go (leb a (length l)) refl
  where
    go : (b : Bool) → leb a (length l) ≡ b → drop (min a (length l)) l ≡ drop a l
    go true e = ap (λ (k : ℕ). drop k l) (min-eq_left (leb-true a (length l) e))
    go false e =
        let over = le_of_lt (leb-false a (length l) e) in
        ap (λ (k : ℕ). drop k l) (min-eq_right over) ∙ drop-length l ∙ sym (drop_of_length-le l over)

take_min : (a : ℕ) (l : List ℕ) → take (min a (length l)) l ≡ take a l
take_min a l = go (leb a (length l)) refl
  where
    go : (b : Bool) → leb a (length l) ≡ b → take (min a (length l)) l ≡ take a l
    go true e = ap (λ (k : ℕ). take k l) (min-eq_left (leb-true a (length l) e))
    go false e =
        let over = le_of_lt (leb-false a (length l) e) in
        ap (λ (k : ℕ). take k l) (min-eq_right over) ∙ take-length l ∙ sym (take_all a l over)

pub part_is :
    (l : List ℕ) (a f : ℕ) {start more : ℕ} → start ≡ min a (length l) → more ≡ min f (length l - start) →
    take (start + more - start) (drop start l) ≡ take f (drop a l)
part_is l a f {start} {more} s m =
    let count : start + more - start ≡ more = omega arith in
    ap (λ (k : ℕ). take k (drop start l)) (count ∙ m ∙ ap (min f) (sym (length-drop start l)))
    ∙ take_min f (drop start l)
    ∙ ap (take f) (ap (λ (k : ℕ). drop k l) s ∙ drop_min a l)

pub queued :
    (item : ℕ) (bytes : List ℕ) {n : Node} {told : List ℕ} {r : NodeQueue} {before after : Out} →
    QueuedIn n (given_readings bytes) (given_frames bytes) (lent_answers bytes) r told →
    Wrote (queue_line item r.answer told) before after →
    QueueStepped n item bytes before (record { node = r.node; goes_on = true }) after
queued item bytes {n} q p =
    let ts = given_readings bytes in
    let fs = given_frames bytes in
    record {
      node = q.node ∙ ap (λ (a : Outcome ⊤). queue_node a n ts fs) q.answer;
      goes_on = refl;
      line =
          named (λ i. queue_line item (q.answer i)
          ((q.bytes ∙ ap (λ (a : Outcome ⊤). queue_bytes a n ts fs (lent_answers bytes)) q.answer) i)) p;
    }
