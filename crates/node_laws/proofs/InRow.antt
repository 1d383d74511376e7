-- Paper 02, request 5: before any pair is taken a row is complete. No contract cites this file.
--   taken_in_row   a FUP that is taken is of the SYNC accepted last, and by then H came in a row
--   stale_pair     a pair that 15 leaves open is older than F: no FUP joins it
-- Assumes nothing.
use Rattle.std.specs.Prelude.{Err, None, Ok, Option, Result, Some}
use Prim.Native.Nat.{ℕ, ◌≤◌, ◌<◌}
use mathlib.Core.Path.{◌≡◌, refl, sym, ap, ◌∙◌, subst}
use mathlib.Core.Bool.{Bool, true, false, not, cond}
use mathlib.Core.Logic.{◌⊎◌, inl, inr}
use mathlib.Core.List.{List, []}
use native.Mathlib.Omega.{arith}
use lib.Dec.{eqb}
use lib.ListN.{length, get_or}
use borrow.Author.Tests.{eqb-true, eqb-false, ltb-false}
use Rattle.clock.specs.declared.reading.VirtualLocalTime.{VirtualLocalTime}
use Rattle.clock.specs.Reading.{span_of}
use Rattle.frame.specs.declared.values.Fup.{Fup}
use Rattle.frame.specs.declared.values.Frame.TheVariants.{Fup as fup}
use Rattle.frame.specs.Types.{type_of}
use Rattle.frame.specs.ByteTwo.{counter_of}
use Rattle.frame_read.specs.Read.{named_domain, values_of}
use Rattle.frame_check.specs.Check.{is_taken}
use Rattle.admission.specs.declared.Needed.TheVariants.{Slave}
use Rattle.admission.specs.Reading.{is_good_reading}
use Rattle.admission.proofs.Laws.{good_reading}
use Rattle.domain.specs.declared.Domain.{Domain}
use Rattle.domain.specs.declared.Pair.{Pair}
use Rattle.domain.specs.declared.LastSync.{LastSync}
use Rattle.domain.specs.declared.LastSync.TheVariants.{Unknown, Seen}
use Rattle.domain.specs.Fields.{with_last}
use Rattle.node.specs.declared.Node.{Node}
use Rattle.node.specs.New.{new_of}
use Rattle.node.specs.Frame.{addressed_by}
use Rattle.node_call.specs.Calls.{frame, node_after, node_after_all}
use Rattle.node_laws.specs.Reachable.{Reachable, new, after}
use Rattle.node_laws.specs.Good.{OfLast, RecordGood}
use Rattle.node_laws.specs.Tests.{first_of, no_type, not_for, no_open_pair, not_the_pairs, kind_tests}
use Rattle.node_laws.specs.Excepted.{named}
use Rattle.node_laws.specs.InRow.{Heard, heard_in, RowCame, LastAccepted, AfterRow, TakenInRow, StalePair}
use Rattle.node_laws.proofs.Reachable.{reachable_good}
use Rattle.node_laws.proofs.Laws.{stored_at}
use Rattle.node_laws.proofs.Order.{order}
use Rattle.node_laws.proofs.Excepted.{fifteen_keeps}
use Rattle.node_laws.proofs.Caps.{pair_here}
use Rattle.node_laws.proofs.Witness.{reaches}
use Rattle.node_laws.proofs.Heard.{Holds, Held, heard_held}
use Rattle.frame.specs.declared.values.Frame.{Frame}
use Rattle.frame_read.specs.declared.NoFrame.{NoFrame}
use Rattle.frame_read.specs.declared.NoFrame.TheVariants.{LengthNot8}

here : (n : Node) → Reachable n → (bytes : List ℕ) → RecordGood (addressed_by bytes) n.kept (named n bytes)
here n r bytes = (reachable_good n r).records (addressed_by bytes) (omega arith)

-- ---- no test gives its number

passed : (b : Bool) (number rest : ℕ) → eqb number 0 ≡ false → cond b number rest ≡ 0 → (b ≡ false) × (rest ≡ 0)
passed true number rest some e = absurd (eqb-false number 0 some e)
passed false number rest some e = (refl, e)

is_true : (b : Bool) → not b ≡ false → b ≡ true
is_true true e = refl
is_true false e = let no : ◌≡◌ {A = ℕ} 0 1 = cc in absurd (omega arith)

-- ---- an open pair that is not old is the last SYNC's, with a complete row

own_at :
    (kept t : VirtualLocalTime) (most h : ℕ) (last : LastSync) (p : Pair) → kept.0 ≤ t.0 → span_of p.at t ≤ most →
    OfLast h last p ⊎ (most < span_of p.at kept) → OfLast h last p
own_at kept t most h last p le near (inl own) = own
own_at kept t most h last p le near (inr old) = absurd (omega (arith, le, near, old))

same_last :
    (counter other : ℕ) (at from : VirtualLocalTime) (heard : List Heard) → counter ≡ other → at ≡ from →
    LastAccepted counter at heard → LastAccepted other from heard
same_last counter other at from heard same there is =
    subst (λ (c : ℕ). LastAccepted c from heard) same
    (subst (λ (r : VirtualLocalTime). LastAccepted counter r heard) there is)

came :
    (j l h : ℕ) (last : LastSync) (p : Pair) (heard : List Heard) → OfLast h last p → Holds j l h last heard →
    LastAccepted p.counter p.at heard × RowCame j l h heard
came j l h Unknown p heard own held = absurd own
came j l h (Seen counter row at) p heard own held =
    (same_last counter p.counter at p.at heard own.0 own.1 held.0, held.2 own.2)

module _ (n : Node) (r : Reachable n) (t : VirtualLocalTime) (bytes : List ℕ) (f : Fup) (heard : List Heard)
    (le : n.kept.0 ≤ t.0) (held : Held (named n bytes) heard) where
  abbrev d : Domain
  d = named n bytes

  found :
      (pairing : Option Pair) → d.pairing ≡ pairing → no_open_pair d.settings.follow_up_time pairing t ≡ false →
      not_the_pairs pairing f ≡ false → AfterRow d.settings t f heard
  found None is e same = let no : ◌≡◌ {A = ℕ} 0 1 = cc in absurd (omega arith)
  found (Some p) is e same =
      let near = ltb-false _ _ e in
      let own =
      own_at n.kept t _ _ d.last p le near
      (pair_here (addressed_by bytes) n.kept d (here n r bytes) p is).1 in
      let row = came _ _ _ d.last p heard own held in
      let counter = eqb-true f.counter p.counter (is_true _ same) in
      record {
        at = p.at;
        last = same_last p.counter f.counter p.at p.at heard (sym counter) refl row.0;
        soon = near;
        row = row.1;
      }

pub taken_in_row : TakenInRow
taken_in_row s is-settings cs are t bytes f reads e =
    let fresh = (new_of s).node in
    let n = node_after_all fresh cs in
    let d = named n bytes in
    let values = values_of (type_of (get_or bytes 0 0)) bytes in
    let one = passed _ 1 _ refl (sym (order n (frame t bytes)) ∙ e) in
    let two = passed _ 2 _ refl one.1 in
    let three = passed (no_type (type_of (get_or bytes 0 0))) 3 _ refl two.1 in
    let four = passed (not_for d (named_domain bytes) Slave) 4 _ refl three.1 in
    let five = passed (not (is_taken d.settings.mode d.settings.ids bytes)) 5 _ refl four.1 in
    let eight = is_true (eqb (length bytes) 8) two.0 in
    let is : values ≡ Ok (fup f) =
    subst (λ (b : Bool). cond b values (Err LengthNot8) ≡ Ok (fup f)) eight reads in
    let tests = subst (λ (v : Result Frame NoFrame). first_of (kind_tests v d t) ≡ 0) is five.1 in
    let le = (good_reading n.kept t (is_true (is_good_reading n.kept t) one.0)).0 in
    let seven = passed _ 7 _ refl tests in
    let same = passed _ 8 _ refl seven.1 in
    found n (reaches fresh (new s is-settings) cs are) t bytes f (heard_in (addressed_by bytes) fresh cs []) le
    (heard_held s cs (addressed_by bytes)) d.pairing refl seven.0 same.0

-- ---- under 15

pub stale_pair : StalePair
stale_pair n r t bytes are e p is =
    let next = node_after n (frame t bytes) in
    let next_good = here next (after n r (frame t bytes) are) bytes in
    let joined = fifteen_keeps n t bytes e in
    let there : addressed_by bytes < length n.domains = omega (arith, (reachable_good n r).sixteen) in
    let stored =
    ap (λ (m : Node). named m bytes) joined.is
    ∙ stored_at n (addressed_by bytes) (addressed_by bytes) _ t refl there in
    by next joined.row joined.below stored (pair_here (addressed_by bytes) next.kept _ next_good p is).1
  where
    by :
        (next : Node) (row : ℕ) → row < (named n bytes).settings.hysteresis →
        named next bytes ≡ with_last (named n bytes) (Seen (counter_of (get_or bytes 2 0)) row t) →
        OfLast (named next bytes).settings.hysteresis (named next bytes).last p
        ⊎ ((named next bytes).settings.follow_up_time < span_of p.at next.kept) →
        (named next bytes).settings.follow_up_time < span_of p.at next.kept
    by next row lt stored (inr old) = old
    by next row lt stored (inl own) =
        let kept = subst (λ (d : Domain). OfLast d.settings.hysteresis d.last p) stored own in
        absurd (omega (arith, lt, kept.2))
