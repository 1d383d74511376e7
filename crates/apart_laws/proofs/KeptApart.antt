-- Records kept apart are the node (paper 02, request 11). No contract cites this file.
--   number_stays   a call leaves the number of every record
--   kept_apart     calls on one record each, at places that are right: the same answers and contents as the node
-- Assumes nothing.
use Rattle.std.specs.Prelude.{Err, Ok, Result}
use Prim.Native.Nat.{ℕ, ◌%◌, ◌<◌, ◌≤◌}
use mathlib.Core.Path.{◌≡◌, refl, sym, ap, subst, ◌∙◌}
use mathlib.Core.Bool.{Bool, true, false}
use mathlib.Core.Logic.{◌⊎◌, inl, inr}
use mathlib.Core.List.{List, [], ◌∷◌}
use native.Mathlib.Nat.{mod-eq_of_lt, mod-lt}
use native.Mathlib.Omega.{arith}
use lib.Dec.{ltb}
use lib.ListN.{set as put}
use lib.Seq.{set-get_or}
use borrow.Author.Tests.{ltb-true, ltb-false}
use Rattle.frame.specs.Values.{domain_in}
use Rattle.frame_read.specs.Read.{named_domain, read_of}
use Rattle.frame_read.proofs.Laws.{Names, read_names}
use Rattle.settings.specs.Node.{places}
use Rattle.domain.specs.declared.Domain.{Domain}
use Rattle.domain.specs.Records.{record_at}
use Rattle.node.specs.declared.Node.{Node}
use Rattle.node_call.specs.Calls.{Call, node_after}
use Rattle.node_laws.proofs.Stays.{Kept, call_keeps}
use Rattle.apart_laws.specs.Apart.{
  OneCall,
  frame,
  read,
  set,
  confirm,
  as_call,
  Done,
  Apart,
  Placed,
  done_in,
  apart_after,
  IsRightFor,
  IsRight,
  AllRight,
  pick_of,
  picked,
  OneEach,
  apart_of,
  reply_of,
  AsNode,
}
use Rattle.apart_laws.proofs.Foreign.{NotFor, Foreign, left_by, foreign_done}
use Rattle.frame.specs.declared.values.Frame.{Frame}
use Rattle.frame_read.specs.declared.NoFrame.{NoFrame}
use Rattle.frame_read.specs.declared.NoFrame.TheVariants.{LengthNot8, NoSuchType}

-- ---- one record per domain, whatever is called

abbrev NumberStays : (before after : Domain) → Type 0
NumberStays before after = after.number ≡ before.number

number_kept : Kept NumberStays
number_kept =
    record {
      master =
          record {
            same = λ d. refl;
            onward = λ a b c p q. q ∙ p;
            timed = λ d g t. refl;
            sent = λ d seconds nanoseconds t. refl;
            confirmed = λ d at. refl;
          };
      paired = λ d t s row. refl;
      heard = λ d last. refl;
      updated = λ d p f leap. refl;
    }

pub number_stays :
    (n : Node) (c : Call) (i : ℕ) → NumberStays (record_at n.domains i) (record_at (node_after n c).domains i)
number_stays = call_keeps NumberStays number_kept

one_each_after : (n : Node) (c : Call) → OneEach n.domains → OneEach (node_after n c).domains
one_each_after n c one i below = rw (number_stays n c i) (one i below)

-- ---- what one call at a place is to the node

stored_back : (ds : List Domain) (i : ℕ) → put ds i (record_at ds i) ≡ ds
stored_back ds i = set-get_or ds i _

pub record Same (n : Node) (p : Placed) : Type 0 where
  pub reply : (done_in (apart_of n) p).reply ≡ reply_of n (as_call p.call)
  pub after : apart_after (apart_of n) p ≡ apart_of (node_after n (as_call p.call))

picked_same : (n : Node) (c : OneCall) → Same n (picked c)
picked_same n (frame t bytes) = record { reply = refl; after = refl }
picked_same n (read domain t) =
    record {
      reply = refl;
      after = λ i. record { domains = stored_back n.domains (domain % places) i; kept = n.kept };
    }
picked_same n (set domain t s ns) = record { reply = refl; after = refl }
picked_same n (confirm domain t counter out) = record { reply = refl; after = refl }

-- ---- another place that is right: the call is for neither record, and both refuse it alike

module _ (n : Node) (one : OneEach n.domains) (i : ℕ) (below : i < places) where
  abbrev here : ℕ → Domain
  here j = record_at n.domains j

  -- a domain above 15 is no record's
  above : (asked j : ℕ) → j < places → places ≤ asked → asked ≡ (here j).number → ⊥
  above asked j small large e = omega (arith, e, one j small)

  abbrev Alike : OneCall → Type 0
  Alike c = (i ≡ pick_of c) ⊎ (Foreign c (here i) × Foreign c (here (pick_of c)))

  domain_alike :
      (asked : ℕ) → (asked < places → i ≡ asked) →
      (i ≡ asked % places) ⊎ ((asked ≡ (here i).number → ⊥) × (asked ≡ (here (asked % places)).number → ⊥))
  domain_alike asked right = go (ltb asked places) refl
    where
      go :
          (b : Bool) → ltb asked places ≡ b →
          (i ≡ asked % places) ⊎ ((asked ≡ (here i).number → ⊥) × (asked ≡ (here (asked % places)).number → ⊥))
      go true e = let small = ltb-true asked places e in inl (right small ∙ sym (mod-eq_of_lt small))
      go false e =
          let large = ltb-false asked places e in
          inr (above asked i below large, above asked (asked % places) (mod-lt asked (omega arith)) large)

  read_alike :
      (bytes : List ℕ) (r : Result Frame NoFrame) → Names bytes r → IsRightFor r i →
      let j = named_domain bytes % places in (i ≡ j) ⊎ (NotFor r (here i).number × NotFor r (here j).number)
  read_alike bytes (Ok values) e right =
      subst (λ (x : ℕ).
      (i ≡ x % places)
      ⊎ ((domain_in values ≡ (here i).number → ⊥) × (domain_in values ≡ (here (x % places)).number → ⊥)))
      e (domain_alike (domain_in values) right)
  read_alike bytes (Err LengthNot8) e right = inr (tt, tt)
  read_alike bytes (Err NoSuchType) e right = inr (tt, tt)

  alike : (c : OneCall) → IsRight (record { place = i; call = c }) → Alike c
  alike (frame t bytes) p = read_alike bytes (read_of bytes) (read_names bytes) p.1
  alike (read domain t) p = domain_alike domain p.1
  alike (set domain t s ns) p = domain_alike domain p.1
  alike (confirm domain t counter out) p = domain_alike domain p.1

  -- a record that a call leaves is stored as it was
  left_at :
      (j : ℕ) (c : OneCall) → Foreign c (here j) →
      let p : Placed = record { place = j; call = c } in
      (done_in (apart_of n) p ≡ left_by (here j) n.kept c) × (apart_after (apart_of n) p ≡ apart_of n)
  left_at j c f =
      let done = foreign_done (here j) n.kept c f in (
        done,
        ap (λ (d : Done). record { domains = put n.domains j d.domain; kept = d.kept }) done
            ∙ (λ k. record { domains = stored_back n.domains j k; kept = n.kept }),
      )

  placed_same : (c : OneCall) → Alike c → Same n (record { place = i; call = c })
  placed_same c (inl e) = subst (λ (j : ℕ). Same n (record { place = j; call = c })) (sym e) (picked_same n c)
  placed_same c (inr f) =
      let node = picked_same n c in
      let mine = left_at i c f.0 in
      let its = left_at (pick_of c) c f.1 in
      record {
        reply = ap (λ (d : Done). d.reply) mine.0 ∙ sym (ap (λ (d : Done). d.reply) its.0) ∙ node.reply;
        after = mine.1 ∙ sym its.1 ∙ node.after;
      }

one_call : (n : Node) → OneEach n.domains → (p : Placed) → IsRight p → Same n p
one_call n one p right =
    placed_same n one p.place right.0 p.call (alike n one p.place right.0 p.call right)

-- ---- any calls

pub kept_apart : (n : Node) → OneEach n.domains → (ps : List Placed) → AllRight ps → AsNode (apart_of n) n ps
kept_apart n one [] right = record { contents = refl; answers = refl }
kept_apart n one (p ∷ rest) right =
    let c = as_call p.call in
    let first = one_call n one p right.0 in
    let later = kept_apart (node_after n c) (one_each_after n c one) rest right.1 in
    let all = subst (λ (a : Apart). AsNode a (node_after n c) rest) (sym first.after) later in
    record { contents = all.contents; answers = λ i. first.reply i ∷ all.answers i }
