-- The tally of one domain after answers, one after another. No contract cites this file.
--   counted_length, all-length   it keeps its seven counts
--   counted_total                an answer that a column counts makes the seven one more
--   all_counts                   each count rises by how many answers are of its column
--   all_sum, all_spread          the sum and the spread are those of the answers' D
-- Assumes nothing.
use Rattle.std.specs.Prelude.{Err, Ok}
use Prim.Native.Nat.{ℕ, ◌+◌, ◌^◌, ◌≤◌, ◌<◌}
use mathlib.Core.Path.{◌≡◌, refl, sym, ap, ◌∙◌}
use mathlib.Core.Bool.{Bool, true, false, cond}
use mathlib.Core.List.{List, [], ◌∷◌, ◌++◌}
use native.Mathlib.Omega.{arith}
use lib.Dec.{eqb, ltb}
use lib.IntN.{ℤ}
use lib.ListN.{length, get_or, set, length-set}
use borrow.Author.Tests.{eqb-true, ltb-true, ltb-false, lt-ltb, ne_eqb}
use Rattle.std.specs.Prelude.{Option, Some}
use Rattle.promise.proofs.Tests.{either, either_told}
use Rattle.text.specs.Pieces.{next_item}
use Rattle.node_laws.specs.Leaps.{moves_of}
use Rattle.sheet_sum.specs.declared.Sum.{Sum}
use Rattle.sheet_sum.specs.Sum.{sum_with, sum_with_all}
use Rattle.sheet_tally.specs.declared.spread.Spread.{Spread}
use Rattle.sheet_tally.specs.declared.Tally.{Tally}
use Rattle.sheet_tally.specs.Spread.{spread_with}
use Rattle.sheet_tally.specs.Tally.{columns, column_of, one_more_in, counted_of}
use Rattle.sheet_laws.specs.Heard.{count_in, differences_in}
use Rattle.sheet_laws.specs.Totals.{sum_by, counts_in}
use Rattle.sheet_laws.proofs.Lists.{sum_set, one_at_most, at_set}
use Rattle.refusal.specs.Numbers.{Outcome}
use Rattle.slave_answer.specs.declared.Taken.{Taken}
use Rattle.slave_answer.specs.declared.Taken.TheVariants.{First, Opened, Updated}

abbrev pub tally_all : Tally → List (Outcome Taken) → Tally
tally_all t [] = t
tally_all t (answer ∷ rest) = tally_all (counted_of t answer) rest

abbrev pub spread_all : Option Spread → List ℤ → Option Spread
spread_all s [] = s
spread_all s (d ∷ rest) = spread_all (Some (spread_with s d)) rest

-- ---- below the last number of 64 bits a count rises by one
pub next : (n : ℕ) → n + 1 < 2 ^ 64 → next_item n ≡ n + 1
next n h = rw (lt-ltb n 18446744073709551615 (omega arith))

-- ---- one answer: its D changes no count
counted_counts : (t : Tally) (answer : Outcome Taken) → (counted_of t answer).counts ≡ (one_more_in t (column_of answer)).counts
counted_counts t (Ok Opened) = refl
counted_counts t (Ok First) = refl
counted_counts t (Ok (Updated d)) = refl
counted_counts t (Err refusal) = refl

-- and its column neither the sum nor the spread
more_sum : (t : Tally) (column : ℕ) → (one_more_in t column).sum ≡ t.sum
more_sum t column = either (λ (u : Tally). u.sum ≡ t.sum) (ltb column columns) refl refl

more_spread : (t : Tally) (column : ℕ) → (one_more_in t column).spread ≡ t.spread
more_spread t column = either (λ (u : Tally). u.spread ≡ t.spread) (ltb column columns) refl refl

counted_sum : (t : Tally) (answer : Outcome Taken) → (counted_of t answer).sum ≡ sum_with_all t.sum (moves_of answer)
counted_sum t (Ok Opened) = refl
counted_sum t (Ok First) = refl
counted_sum t (Ok (Updated d)) = refl
counted_sum t (Err refusal) = more_sum t (column_of (Err refusal))

counted_spread :
    (t : Tally) (answer : Outcome Taken) → (counted_of t answer).spread ≡ spread_all t.spread (moves_of answer)
counted_spread t (Ok Opened) = refl
counted_spread t (Ok First) = refl
counted_spread t (Ok (Updated d)) = refl
counted_spread t (Err refusal) = more_spread t (column_of (Err refusal))

-- ---- the seven counts

more_length : (t : Tally) (column : ℕ) → length (one_more_in t column).counts ≡ length t.counts
more_length t column =
    either (λ (u : Tally). length u.counts ≡ length t.counts) (ltb column columns)
    (length-set t.counts column _) refl

pub counted_length : (t : Tally) (answer : Outcome Taken) → length (counted_of t answer).counts ≡ length t.counts
counted_length t answer = ap length (counted_counts t answer) ∙ more_length t (column_of answer)

more_total :
    (t : Tally) (column : ℕ) → length t.counts ≡ columns → column < columns → counts_in t + 1 < 2 ^ 64 →
    counts_in (one_more_in t column) ≡ counts_in t + 1
more_total t column seven below few =
    let x = get_or t.counts column 0 in
    let there : column < length t.counts = omega arith in
    let small = one_at_most (λ (n : ℕ). n) t.counts column 0 there in
    let up = next x (omega arith) in
    let whole = sum_set (λ (n : ℕ). n) t.counts column (next_item x) 0 there in
    rw (lt-ltb column columns below) (omega arith)

pub counted_total :
    (t : Tally) (answer : Outcome Taken) → length t.counts ≡ columns → column_of answer < columns →
    counts_in t + 1 < 2 ^ 64 → counts_in (counted_of t answer) ≡ counts_in t + 1
counted_total t answer seven below few =
    ap (sum_by (λ (n : ℕ). n)) (counted_counts t answer) ∙ more_total t (column_of answer) seven below few

-- ---- one of them

rose : (b : Bool) (x y : ℕ) → (b ≡ true → y ≡ x + 1) → cond b y x ≡ x + cond b 1 0
rose true x y up = up refl
rose false x y up = omega arith

one_or_none : (b : Bool) → cond b 1 0 ≤ 1
one_or_none true = omega arith
one_or_none false = omega arith

more_at :
    (t : Tally) (column k : ℕ) → length t.counts ≡ columns → k < columns → get_or t.counts k 0 + 1 < 2 ^ 64 →
    get_or (one_more_in t column).counts k 0 ≡ get_or t.counts k 0 + cond (eqb column k) 1 0
more_at t column k seven below few =
    either_told (λ (u : Tally). get_or u.counts k 0 ≡ x + cond (eqb column k) 1 0) (ltb column columns) stored kept
  where
    x : ℕ
    x = get_or t.counts k 0

    stored :
        ltb column columns ≡ true →
        get_or (set t.counts column (next_item (get_or t.counts column 0))) k 0 ≡ x + cond (eqb column k) 1 0
    stored e =
        let there : column < length t.counts = omega (arith, ltb-true column columns e) in
        at_set t.counts column k (next_item (get_or t.counts column 0)) 0 there
        ∙ rose (eqb column k) x (next_item (get_or t.counts column 0))
        (λ same. ap (λ (j : ℕ). next_item (get_or t.counts j 0)) (eqb-true column k same) ∙ next x few)

    kept : ltb column columns ≡ false → x ≡ x + cond (eqb column k) 1 0
    kept e = let h = ltb-false column columns e in rw (ne_eqb column k (λ same. omega arith)) (omega arith)

pub all_counts :
    (k : ℕ) (t : Tally) (answers : List (Outcome Taken)) → length t.counts ≡ columns → k < columns →
    get_or t.counts k 0 + length answers < 2 ^ 64 →
    get_or (tally_all t answers).counts k 0 ≡ get_or t.counts k 0 + count_in k answers
all_counts k t [] seven below few = omega arith
all_counts k t (answer ∷ rest) seven below few =
    let more = one_or_none (eqb (column_of answer) k) in
    let one =
    ap (λ (l : List ℕ). get_or l k 0) (counted_counts t answer)
    ∙ more_at t (column_of answer) k seven below (omega arith) in
    let others = all_counts k (counted_of t answer) rest (counted_length t answer ∙ seven) below (omega (arith, one)) in
    omega (arith, one, others)

-- ---- the sum and the spread of D

sum_append : (s : Sum) (xs ys : List ℤ) → sum_with_all s (xs ++ ys) ≡ sum_with_all (sum_with_all s xs) ys
sum_append s [] ys = refl
sum_append s (x ∷ xs) ys = sum_append (sum_with s x) xs ys

spread_append : (s : Option Spread) (xs ys : List ℤ) → spread_all s (xs ++ ys) ≡ spread_all (spread_all s xs) ys
spread_append s [] ys = refl
spread_append s (x ∷ xs) ys = spread_append (Some (spread_with s x)) xs ys

pub all_sum :
    (t : Tally) (answers : List (Outcome Taken)) → (tally_all t answers).sum ≡ sum_with_all t.sum (differences_in answers)
all_sum t [] = refl
all_sum t (answer ∷ rest) =
    all_sum (counted_of t answer) rest
    ∙ ap (λ (s : Sum). sum_with_all s (differences_in rest)) (counted_sum t answer)
    ∙ sym (sum_append t.sum (moves_of answer) (differences_in rest))

pub all_spread :
    (t : Tally) (answers : List (Outcome Taken)) →
    (tally_all t answers).spread ≡ spread_all t.spread (differences_in answers)
all_spread t [] = refl
all_spread t (answer ∷ rest) =
    all_spread (counted_of t answer) rest
    ∙ ap (λ (s : Option Spread). spread_all s (differences_in rest)) (counted_spread t answer)
    ∙ sym (spread_append t.spread (moves_of answer) (differences_in rest))
