-- The counts of a sheet add up to the records read. No contract cites this file.
--   counts_add_up   those of the lines that are printed, and the closing line's
-- What is kept at each record is `Adds`: the counts of all tallies and the others are the records read, and a domain
-- that is no slave's has none. Assumes nothing.
use Prim.Native.Nat.{ℕ, zero, suc, ◌+◌, ◌%◌, ◌^◌, ◌<◌}
use mathlib.Core.Path.{◌≡◌, refl, sym, ap, subst, ◌∙◌}
use mathlib.Core.Logic.{◌⊎◌, inl, inr, ⊎_elim}
use mathlib.Core.Bool.{cond}
use mathlib.Core.List.{List, [], ◌∷◌}
use native.Mathlib.Omega.{arith}
use lib.Dec.{eqb, ltb}
use lib.ListN.{length, set, drop, replicate, drop_of_length-le}
use lib.Seq.{drop-cons}
use borrow.Author.Tests.{eqb-true, ltb-true}
use Rattle.std.specs.Prelude.{Option, Some, None}
use Rattle.promise.proofs.Tests.{either, either_told}
use Rattle.settings.specs.declared.domain_settings.DomainSettings.{DomainSettings}
use Rattle.settings.specs.declared.domain_settings.Role.{Role}
use Rattle.settings.specs.declared.domain_settings.Role.TheVariants.{Absent, Slave, Master}
use Rattle.settings.specs.Node.{places}
use Rattle.domain.specs.Records.{record_at}
use Rattle.frame_read.specs.Read.{named_domain}
use Rattle.node.specs.declared.Node.{Node}
use Rattle.node.specs.Frame.{addressed_by, node_frame_of}
use Rattle.node_call.specs.Calls.{Call, frame, read, set as set_call, cycle, confirm, node_after, node_after_all}
use Rattle.node_laws.proofs.Stays.{settings_stay}
use Rattle.sheet_tally.specs.declared.Tally.{Tally}
use Rattle.sheet_tally.specs.declared.entry.Entry.{Entry}
use Rattle.sheet_tally.specs.declared.sheet.Sheet.{Sheet}
use Rattle.sheet_tally.specs.Tally.{columns, column_of, no_tally, counted_of}
use Rattle.sheet_tally.specs.Sheet.{tally_at, no_sheet, sheet_with}
use Rattle.sheet_laws.specs.Calls.{entry_in, sheet_after}
use Rattle.sheet_laws.specs.Totals.{sum_by, counts_in, counts_of, lines_count}
use Rattle.sheet_laws.specs.Sheets.{CountsAddUp}
use Rattle.sheet_laws.proofs.Lists.{sum_set, one_at_most, at_set}
use Rattle.sheet_laws.proofs.Tally.{next, counted_length, counted_total}
use Rattle.sheet_laws.proofs.Frames.{frame_slave}
use Rattle.sheet_laws.proofs.Heard.{sixteen_kept}
use Rattle.refusal.specs.Numbers.{Outcome}
use Rattle.slave_answer.specs.declared.Taken.{Taken}

record Adds (role : ℕ → Role) (s : Sheet) (records : ℕ) : Type 0 where
  sixteen : length s.tallies ≡ places
  seven : (i : ℕ) → length (tally_at s.tallies i).counts ≡ columns
  whole : sum_by counts_in s.tallies + s.other ≡ records
  slaves : (i : ℕ) → (role i ≡ Slave) ⊎ (counts_in (tally_at s.tallies i) ≡ 0)

-- ---- one record more

module _ (role : ℕ → Role) (s : Sheet) (k : ℕ) (a : Adds role s k) (few : k + 1 < 2 ^ 64) where
  other_adds : Adds role (sheet_with s None) (k + 1)
  other_adds =
      let whole = a.whole in
      let more = next s.other (omega arith) in
      record { sixteen = a.sixteen; seven = a.seven; whole = omega arith; slaves = a.slaves }

  module _
      (named : ℕ) (answer : Outcome Taken) (counted : column_of answer < columns)
      (slave : role (named % places) ≡ Slave) where
    abbrev at : ℕ
    at = named % places

    abbrev old : Tally
    old = tally_at s.tallies at

    there : at < length s.tallies
    there = omega (arith, a.sixteen)

    stored :
        (i : ℕ) →
        tally_at (set s.tallies at (counted_of old answer)) i
        ≡ cond (eqb at i) (counted_of old answer) (tally_at s.tallies i)
    stored i = at_set s.tallies at i (counted_of old answer) no_tally there

    of_adds : Adds role (sheet_with s (Some (record { named = named; answer = answer }))) (k + 1)
    of_adds =
        let whole = a.whole in
        let small = one_at_most counts_in s.tallies at no_tally there in
        let more = counted_total old answer (a.seven at) counted (omega arith) in
        let moved = sum_set counts_in s.tallies at (counted_of old answer) no_tally there in
        record {
          sixteen = sixteen_kept s (Some (record { named = named; answer = answer })) ∙ a.sixteen;
          seven =
              λ i. ap (λ (t : Tally). length t.counts) (stored i)
              ∙ either (λ (t : Tally). length t.counts ≡ columns) (eqb at i)
              (counted_length old answer ∙ a.seven at) (a.seven i);
          whole = omega arith;
          slaves =
              λ i. subst (λ (t : Tally). (role i ≡ Slave) ⊎ (counts_in t ≡ 0)) (sym (stored i))
              (either_told (λ (t : Tally). (role i ≡ Slave) ⊎ (counts_in t ≡ 0)) (eqb at i)
              (λ e. inl (ap role (sym (eqb-true at i e)) ∙ slave)) (λ e. a.slaves i));
        }

-- ---- one call more

abbrev roles_of : Node → ℕ → Role
roles_of n i = (record_at n.domains i).settings.role

call_adds :
    (n : Node) (s : Sheet) (k : ℕ) (c : Call) → Adds (roles_of n) s k → k + 1 < 2 ^ 64 →
    Adds (roles_of n) (sheet_with s (entry_in n c)) (k + 1)
call_adds n s k (frame t bytes) a few =
    let answer = (node_frame_of n t bytes).answer in
    either_told (λ (e : Option Entry). Adds (roles_of n) (sheet_with s e) (k + 1)) (ltb (column_of answer) columns)
    (λ e.
    let counted = ltb-true (column_of answer) columns e in
    of_adds (roles_of n) s k a few (named_domain bytes) answer counted
    (frame_slave (record_at n.domains (addressed_by bytes)) n.kept t bytes counted))
    (λ e. other_adds (roles_of n) s k a few)
call_adds n s k (read domain t) a few = other_adds (roles_of n) s k a few
call_adds n s k (set_call domain t seconds ns) a few = other_adds (roles_of n) s k a few
call_adds n s k (cycle t out) a few = other_adds (roles_of n) s k a few
call_adds n s k (confirm domain t counter out) a few = other_adds (roles_of n) s k a few

-- no call changes a role
roles_stay : (n : Node) (s : Sheet) (k : ℕ) (c : Call) → Adds (roles_of n) s k → Adds (roles_of (node_after n c)) s k
roles_stay n s k c a =
    record {
      sixteen = a.sixteen;
      seven = a.seven;
      whole = a.whole;
      slaves =
          λ i. ⊎_elim
          (λ slave. inl (ap (λ (x : DomainSettings). x.role) (settings_stay n c i) ∙ slave)) inr (a.slaves i);
    }

all_add :
    (n : Node) (s : Sheet) (k : ℕ) (cs : List Call) → Adds (roles_of n) s k → k + length cs < 2 ^ 64 →
    Adds (roles_of (node_after_all n cs)) (sheet_after n s cs) (k + length cs)
all_add n s k [] a few = subst (Adds (roles_of n) s) (omega arith) a
all_add n s k (c ∷ rest) a few =
    let s' = sheet_with s (entry_in n c) in
    let one = roles_stay n s' (k + 1) c (call_adds n s k c a (omega arith)) in
    subst (Adds (roles_of (node_after_all (node_after n c) rest)) (sheet_after (node_after n c) s' rest)) (omega arith)
    (all_add (node_after n c) s' (k + 1) rest one (omega arith))

-- ---- none yet

fresh_tally : (k i : ℕ) → tally_at (replicate k no_tally) i ≡ no_tally
fresh_tally zero i = refl
fresh_tally (suc k) zero = refl
fresh_tally (suc k) (suc i) = fresh_tally k i

fresh_adds : (role : ℕ → Role) → Adds role no_sheet 0
fresh_adds role =
    record {
      sixteen = refl;
      seven = λ i. ap (λ (t : Tally). length t.counts) (fresh_tally places i);
      whole = refl;
      slaves = λ i. inr (ap counts_in (fresh_tally places i));
    }

-- ---- what is printed is all of it

printed : (r : Role) (t : Tally) → (r ≡ Slave) ⊎ (counts_in t ≡ 0) → counts_of r t ≡ counts_in t
printed Slave t h = refl
printed Absent t (inl e) = cc
printed Absent t (inr e) = sym e
printed Master t (inl e) = cc
printed Master t (inr e) = sym e

lines_all :
    (k from : ℕ) (n : Node) (s : Sheet) (records : ℕ) → Adds (roles_of n) s records → from + k ≡ places →
    lines_count k from n s ≡ sum_by counts_in (drop from s.tallies)
lines_all zero from n s records a e =
    ap (sum_by counts_in) (sym (drop_of_length-le s.tallies {i = from} (omega (arith, a.sixteen))))
lines_all (suc k) from n s records a e =
    let first = printed (roles_of n from) (tally_at s.tallies from) (a.slaves from) in
    let others = lines_all k (suc from) n s records a (omega arith) in
    let whole = ap (sum_by counts_in) (drop-cons s.tallies from no_tally (omega (arith, a.sixteen))) in
    omega (arith, first, others, whole)

pub counts_add_up : CountsAddUp
counts_add_up n cs few =
    let n' = node_after_all n cs in
    let s' = sheet_after n no_sheet cs in
    let a = all_add n no_sheet 0 cs (fresh_adds (roles_of n)) (omega arith) in
    let lines = lines_all places 0 n' s' (0 + length cs) a refl in
    let whole = a.whole in
    omega (arith, lines, whole)
