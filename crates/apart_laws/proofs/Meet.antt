-- What meets the hypotheses of `kept_apart`. No contract cites this file.
--   reachable_one_each   a node that is reachable has one record per domain
--   pick_right           byte 2 of a frame, or the domain asked for, modulo 16: a place that is right for any call
--   picked_apart         so that any calls at these places are to the records what they are to the node
--   kept_apart_new       the same of records that the product makes itself, one per domain, and the node of `new`
--   calls_met            calls of the bench, with junk and a domain above 15 on other records, and their numbers
--   not_met              P1 on another record than its own is refused: the place matters
-- Assumes nothing.
use Rattle.std.specs.Prelude.{Err, Ok, Result}
use Prim.Native.Nat.{ℕ, ◌%◌, ◌<◌}
use mathlib.Core.Path.{◌≡◌, refl, sym, ap, subst, ◌∙◌}
use mathlib.Core.List.{List, [], ◌∷◌, map}
use native.Mathlib.Nat.{mod-eq_of_lt, mod-lt}
use native.Mathlib.Omega.{arith}
use Rattle.clock.specs.declared.reading.VirtualLocalTime.{VirtualLocalTime}
use Rattle.frame_read.specs.Read.{named_domain, read_of}
use Rattle.frame_read.proofs.Laws.{Names, read_names}
use Rattle.settings.specs.declared.node_settings.NodeSettings.{NodeSettings}
use Rattle.settings.specs.Node.{places, judged_of}
use Rattle.node.specs.declared.Node.{Node}
use Rattle.node.specs.New.{new_of}
use Rattle.node_call.specs.Calls.{call_number}
use Rattle.bench_settings.specs.Bench.{bench_with}
use Rattle.node_laws.specs.Reachable.{IsSettings, Reachable, new}
use Rattle.node_laws.proofs.Reachable.{reachable_good}
use Rattle.apart_laws.specs.Apart.{
  OneCall,
  frame,
  read,
  set,
  confirm,
  Reply,
  Apart,
  Placed,
  apart_replies,
  IsRightFor,
  IsRight,
  AllRight,
  pick_of,
  picked,
  OneEach,
  apart_of,
  AsNode,
  fresh_apart,
}
use Rattle.apart_laws.proofs.KeptApart.{kept_apart}
use Rattle.frame.specs.declared.values.Frame.{Frame}
use Rattle.frame_read.specs.declared.NoFrame.{NoFrame}
use Rattle.frame_read.specs.declared.NoFrame.TheVariants.{LengthNot8, NoSuchType}

-- ---- the nodes

pub reachable_one_each : (n : Node) → Reachable n → OneEach n.domains
reachable_one_each n r i below = ((reachable_good n r).records i below).number

-- ---- the places

pick_below : (c : OneCall) → pick_of c < places
pick_below (frame t bytes) = mod-lt (named_domain bytes) (omega arith)
pick_below (read domain t) = mod-lt domain (omega arith)
pick_below (set domain t s ns) = mod-lt domain (omega arith)
pick_below (confirm domain t counter out) = mod-lt domain (omega arith)

read_right : (bytes : List ℕ) (r : Result Frame NoFrame) → Names bytes r → IsRightFor r (named_domain bytes % places)
read_right bytes (Ok values) e = λ below. ap (λ (x : ℕ). x % places) (sym e) ∙ mod-eq_of_lt below
read_right bytes (Err LengthNot8) e = tt
read_right bytes (Err NoSuchType) e = tt

pub pick_right : (c : OneCall) → IsRight (picked c)
pick_right (frame t bytes) = (pick_below (frame t bytes), read_right bytes (read_of bytes) (read_names bytes))
pick_right (read domain t) = (pick_below (read domain t), λ below. mod-eq_of_lt below)
pick_right (set domain t s ns) = (pick_below (set domain t s ns), λ below. mod-eq_of_lt below)
pick_right (confirm domain t counter out) =
    (pick_below (confirm domain t counter out), λ below. mod-eq_of_lt below)

all_picked : (cs : List OneCall) → AllRight (map picked cs)
all_picked [] = tt
all_picked (c ∷ rest) = (pick_right c, all_picked rest)

pub picked_apart : (n : Node) → Reachable n → (cs : List OneCall) → AsNode (apart_of n) n (map picked cs)
picked_apart n r cs = kept_apart n (reachable_one_each n r) (map picked cs) (all_picked cs)

-- ---- records that the product makes itself

pub kept_apart_new :
    (s : NodeSettings) → IsSettings s → judged_of s ≡ Ok tt → (ps : List Placed) → AllRight ps →
    AsNode (fresh_apart s.domains) (new_of s).node ps
kept_apart_new s is good ps right =
    let n = (new_of s).node in
    subst (λ (a : Apart). AsNode a n ps) (rw good)
    (kept_apart n (reachable_one_each n (new s is)) ps right)

-- ---- calls, computed

abbrev at : ℕ → VirtualLocalTime
at t = record { 0 = t }

abbrev on : (place : ℕ) → OneCall → Placed
on place c = record { place = place; call = c }

abbrev p1 : List ℕ
p1 = 0x10 ∷ 0xBB ∷ 0x11 ∷ 0xAA ∷ 0 ∷ 0 ∷ 0x0E ∷ 0x10 ∷ []

abbrev p2 : List ℕ
p2 = 0x18 ∷ 0 ∷ 0x11 ∷ 0 ∷ 0 ∷ 0 ∷ 0 ∷ 0x64 ∷ []

abbrev calls : List Placed
calls =
    on 1 (frame (at 5000000000) p1)
    ∷ on 7 (frame (at 5000000000) (0x10 ∷ 0xBB ∷ 0x11 ∷ []))
    ∷ on 1 (frame (at 5010000000) p2)
    ∷ on 3 (frame (at 5000000000) (0x55 ∷ 0xBB ∷ 0x11 ∷ 0xAA ∷ 0 ∷ 0 ∷ 0x0E ∷ 0x10 ∷ []))
    ∷ on 4 (read 200 (at 5010000000))
    ∷ on 1 (read 1 (at 6010000000))
    ∷ on 2 (set 2 (at 6020000000) 100 7)
    ∷ on 2 (confirm 2 (at 6020000000) 0 [])
    ∷ []

calls_right : AllRight calls
calls_right = (
  (omega arith, λ below. refl),
  (
    (omega arith, tt),
    (
      (omega arith, λ below. refl),
      (
        (omega arith, tt),
        (
          (omega arith, λ below. absurd (omega arith)),
          ((omega arith, λ below. refl), ((omega arith, λ below. refl), ((omega arith, λ below. refl), tt))),
        ),
      ),
    ),
  ),
)

abbrev numbers_of : List Reply → List ℕ
numbers_of rs = map (λ (r : Reply). call_number r.answer) rs

abbrev fresh : Apart
fresh = fresh_apart (bench_with 2).domains

calls_apart : AsNode fresh (new_of (bench_with 2)).node calls
calls_apart = kept_apart_new (bench_with 2) refl refl calls calls_right

pub calls_met : numbers_of (apart_replies fresh calls) ≡ 0 ∷ 2 ∷ 0 ∷ 1 ∷ 4 ∷ 0 ∷ 0 ∷ 11 ∷ []
calls_met = refl

pub not_met : numbers_of (apart_replies fresh (on 2 (frame (at 5000000000) p1) ∷ [])) ≡ 4 ∷ []
not_met = refl
