-- A receive queue on any node, and on a reachable one. No contract cites this file.
--   queue_order     its number is that of the first of its tests, in the order 12, 2
--   queue_calls     its frame calls have arguments as their types say
--   queue_reached   from a reachable node it leads to a reachable one, so that what is shown of those holds after it
--   pair_taken      P1 and P2 of the paper in one queue are taken, with 0 and 0 in a buffer of three
--   pair_held       and the slave holds their time
-- Assumes nothing.
use Rattle.std.specs.Prelude.{Err, Ok, Some, ⊤}
use Prim.Native.Nat.{ℕ, zero, suc, ◌*◌}
use mathlib.Core.Path.{◌≡◌, refl, sym, ap, subst, ◌∙◌}
use mathlib.Core.Bool.{Bool, true, false, not, cond, ◌&&◌}
use mathlib.Core.List.{List, [], ◌∷◌, ◌++◌}
use lib.Dec.{leb, eqb}
use lib.ListN.{length, take, drop, replicate}
use Rattle.refusal.specs.declared.Refusal.TheVariants.{Length, NoRoom}
use Rattle.frame_laws.specs.RoundTrip.{AreBytes}
use Rattle.domain.specs.Records.{record_at}
use Rattle.node.specs.declared.Node.{Node}
use Rattle.node.specs.New.{new_of}
use Rattle.node_queue.specs.declared.NodeQueue.{NodeQueue}
use Rattle.node_queue.specs.Queue.{queue_calls, queue_node, queue_bytes, QueuedIn}
use Rattle.bench_settings.specs.Bench.{bench_with}
use Rattle.node_laws.specs.Reachable.{AreCalls, Reachable}
use Rattle.node_laws.specs.Tests.{first_of, queue_tests}
use Rattle.node_laws.proofs.Witness.{reaches}
use Rattle.refusal.specs.Numbers.{Outcome, outcome_number}

pub queue_order :
    (n : Node) (ts fs before : List ℕ) (r : NodeQueue) (after : List ℕ) → QueuedIn n ts fs before r after →
    outcome_number r.answer ≡ first_of (queue_tests ts fs before)
queue_order n ts fs before r after q =
    ap outcome_number q.answer
    ∙ by (leb (length ts) (length before)) (leb (length ts) 32) (eqb (length fs) (8 * length ts))
  where
    by :
        (room most eight : Bool) →
        outcome_number {A = ⊤} (cond room (cond (most && eight) (Ok tt) (Err Length)) (Err NoRoom))
        ≡ first_of ((12, not room) ∷ (2, not most) ∷ (2, not eight) ∷ [])
    by true true true = refl
    by true true false = refl
    by true false eight = refl
    by false most eight = refl

bytes_take : (k : ℕ) (l : List ℕ) → AreBytes l → AreBytes (take k l)
bytes_take zero l are = tt
bytes_take (suc k) [] are = tt
bytes_take (suc k) (byte ∷ rest) are = (are.0, bytes_take k rest are.1)

bytes_drop : (k : ℕ) (l : List ℕ) → AreBytes l → AreBytes (drop k l)
bytes_drop zero l are = are
bytes_drop (suc k) [] are = tt
bytes_drop (suc k) (byte ∷ rest) are = bytes_drop k rest are.1

pub queue_calls_lem : (ts fs : List ℕ) → AreBytes fs → AreCalls (queue_calls ts fs)
queue_calls_lem [] fs are = tt
queue_calls_lem (t ∷ ts) fs are = (bytes_take 8 fs are, queue_calls_lem ts (drop 8 fs) (bytes_drop 8 fs are))

pub queue_reached :
    (n : Node) → Reachable n → (ts fs before : List ℕ) → AreBytes fs → (r : NodeQueue) (after : List ℕ) →
    QueuedIn n ts fs before r after → Reachable r.node
queue_reached n reached ts fs before are r after q = subst Reachable (sym q.node) (by r.answer)
  where
    by : (a : Outcome ⊤) → Reachable (queue_node a n ts fs)
    by (Ok tt) = reaches n reached (queue_calls ts fs) (queue_calls_lem ts fs are)
    by (Err refusal) = reached

-- ---- P1 and P2 in one

abbrev bench : Node
bench = (new_of (bench_with 2)).node

abbrev readings : List ℕ
readings = 5000000000 ∷ 5010000000 ∷ []

abbrev frames : List ℕ
frames =
    (0x10 ∷ 0xBB ∷ 0x11 ∷ 0xAA ∷ 0x00 ∷ 0x00 ∷ 0x0E ∷ 0x10 ∷ [])
    ++ (0x18 ∷ 0x00 ∷ 0x11 ∷ 0x00 ∷ 0x00 ∷ 0x00 ∷ 0x00 ∷ 0x64 ∷ [])

pub pair_taken :
    (r : NodeQueue) (after : List ℕ) → QueuedIn bench readings frames (replicate 3 0xA5) r after →
    (r.answer ≡ Ok tt) × (after ≡ 0 ∷ 0 ∷ 0xA5 ∷ [])
pair_taken r after q =
    (q.answer, q.bytes ∙ ap (λ (a : Outcome ⊤). queue_bytes a bench readings frames (replicate 3 0xA5)) q.answer)

pub pair_held :
    (r : NodeQueue) (after : List ℕ) → QueuedIn bench readings frames (replicate 3 0xA5) r after →
    (record_at r.node.domains 1).base
    ≡ Some (record { time = record { 0 = 3600; 1 = 100 }; at = record { 0 = 5000000000 } })
pair_held r after q =
    ap (λ (n : Node). (record_at n.domains 1).base)
    (q.node ∙ ap (λ (a : Outcome ⊤). queue_node a bench readings frames) q.answer)
