-- The tally of a domain is that of the answers to its frames. No contract cites this file.
--   sixteen_kept      a sheet keeps its sixteen tallies
--   heard_tally       the tally after calls is the one before, with the answers that were heard
--   heard_moves       the D of these are the D of the domain's updates
--   heard_few         there are no more of them than calls
--   moves_within      each D is a number of 64 signed bits
--   moves_few         and there are no more of them than calls
-- Assumes nothing.
use Rattle.std.specs.Prelude.{Err, Ok}
use Prim.Native.Nat.{ℕ, ◌%◌, ◌≤◌, ◌<◌}
use mathlib.Core.Path.{◌≡◌, refl, sym, ap, ◌∙◌}
use mathlib.Core.Bool.{Bool, true, false, cond, ◌&&◌}
use mathlib.Core.List.{List, [], ◌∷◌, ◌++◌, append_assoc}
use native.Mathlib.Omega.{arith}
use lib.Dec.{eqb, ltb}
use lib.IntN.{ℤ}
use lib.ListN.{length, length-set, length-append}
use borrow.Author.Tests.{eqb-true}
use Rattle.std.specs.Prelude.{Option, Some, None}
use Rattle.promise.proofs.Tests.{either}
use Rattle.settings.specs.Node.{places}
use Rattle.domain.specs.Records.{record_at}
use Rattle.frame_read.specs.Read.{named_domain}
use Rattle.node.specs.declared.Node.{Node}
use Rattle.node.specs.Frame.{addressed_by, node_frame_of}
use Rattle.node_call.specs.Calls.{Call, frame, read, set, cycle, confirm, node_after}
use Rattle.node_laws.specs.Leaps.{moves_of, moves_by, moves_in}
use Rattle.sheet_sum.specs.Sum.{AllWithin64}
use Rattle.sheet_tally.specs.declared.Tally.{Tally}
use Rattle.sheet_tally.specs.declared.entry.Entry.{Entry}
use Rattle.sheet_tally.specs.declared.sheet.Sheet.{Sheet}
use Rattle.sheet_tally.specs.Tally.{columns, column_of, no_tally, counted_of}
use Rattle.sheet_tally.specs.Sheet.{tally_at, sheet_with}
use Rattle.sheet_laws.specs.Calls.{entry_in, sheet_after}
use Rattle.sheet_laws.specs.Heard.{heard_by, heard_in, differences_in}
use Rattle.sheet_laws.proofs.Lists.{at_set}
use Rattle.sheet_laws.proofs.Tally.{tally_all}
use Rattle.sheet_laws.proofs.Frames.{frame_within}
use Rattle.refusal.specs.Numbers.{Outcome}
use Rattle.slave_answer.specs.declared.Taken.{Taken}
use Rattle.slave_answer.specs.declared.Taken.TheVariants.{First, Opened, Updated}

-- ---- sixteen tallies

pub sixteen_kept : (s : Sheet) (e : Option Entry) → length (sheet_with s e).tallies ≡ length s.tallies
sixteen_kept s (Some e) = length-set s.tallies (e.named % places) _
sixteen_kept s None = refl

-- ---- one record

with_one :
    (s : Sheet) (i named : ℕ) (answer : Outcome Taken) → length s.tallies ≡ places →
    (counted : Bool) → let at = named % places in
    tally_at (sheet_with s (cond counted (Some (record { named = named; answer = answer })) None)).tallies i
    ≡ tally_all (tally_at s.tallies i) (cond (eqb at i && counted) (answer ∷ []) [])
with_one s i named answer sixteen true =
    at_set s.tallies at i (counted_of (tally_at s.tallies at) answer) no_tally there
    ∙ go (eqb at i) (eqb-true at i)
  where
    at : ℕ
    at = named % places

    there : at < length s.tallies
    there = omega (arith, sixteen)

    go :
        (b : Bool) → (b ≡ true → at ≡ i) →
        cond b (counted_of (tally_at s.tallies at) answer) (tally_at s.tallies i)
        ≡ tally_all (tally_at s.tallies i) (cond (b && true) (answer ∷ []) [])
    go true same = ap (λ (j : ℕ). counted_of (tally_at s.tallies j) answer) (same refl)
    go false same = refl
with_one s i named answer sixteen false = go (eqb (named % places) i)
  where
    go : (b : Bool) → tally_at s.tallies i ≡ tally_all (tally_at s.tallies i) (cond (b && false) (answer ∷ []) [])
    go true = refl
    go false = refl

one_heard :
    (i : ℕ) (n : Node) (s : Sheet) (c : Call) → length s.tallies ≡ places →
    tally_at (sheet_with s (entry_in n c)).tallies i ≡ tally_all (tally_at s.tallies i) (heard_by i n c)
one_heard i n s (frame t bytes) sixteen =
    let answer = (node_frame_of n t bytes).answer in
    with_one s i (named_domain bytes) answer sixteen (ltb (column_of answer) columns)
one_heard i n s (read domain t) sixteen = refl
one_heard i n s (set domain t seconds ns) sixteen = refl
one_heard i n s (cycle t out) sixteen = refl
one_heard i n s (confirm domain t counter out) sixteen = refl

-- ---- all of them

all_append : (t : Tally) (xs ys : List (Outcome Taken)) → tally_all t (xs ++ ys) ≡ tally_all (tally_all t xs) ys
all_append t [] ys = refl
all_append t (x ∷ xs) ys = all_append (counted_of t x) xs ys

pub heard_tally :
    (i : ℕ) (n : Node) (s : Sheet) (cs : List Call) → length s.tallies ≡ places →
    tally_at (sheet_after n s cs).tallies i ≡ tally_all (tally_at s.tallies i) (heard_in i n cs)
heard_tally i n s [] sixteen = refl
heard_tally i n s (c ∷ rest) sixteen =
    heard_tally i (node_after n c) (sheet_with s (entry_in n c)) rest (sixteen_kept s (entry_in n c) ∙ sixteen)
    ∙ ap (λ (t : Tally). tally_all t (heard_in i (node_after n c) rest)) (one_heard i n s c sixteen)
    ∙ sym (all_append (tally_at s.tallies i) (heard_by i n c) (heard_in i (node_after n c) rest))

-- ---- their D

differences_append : (xs ys : List (Outcome Taken)) → differences_in (xs ++ ys) ≡ differences_in xs ++ differences_in ys
differences_append [] ys = refl
differences_append (x ∷ xs) ys =
    ap (λ (ds : List ℤ). moves_of x ++ ds) (differences_append xs ys)
    ∙ sym (append_assoc (moves_of x) (differences_in xs) (differences_in ys))

-- what no column counts has no D
counted_moves :
    (answer : Outcome Taken) → differences_in (cond (ltb (column_of answer) columns) (answer ∷ []) []) ≡ moves_of answer
counted_moves (Ok Opened) = refl
counted_moves (Ok First) = refl
counted_moves (Ok (Updated d)) = refl
counted_moves (Err refusal) =
    either (λ (answers : List (Outcome Taken)). differences_in answers ≡ []) (ltb (column_of (Err refusal)) columns)
    refl refl

moves_one : (i : ℕ) (n : Node) (c : Call) → differences_in (heard_by i n c) ≡ moves_by i n c
moves_one i n (frame t bytes) = go (eqb (addressed_by bytes) i)
  where
    answer : Outcome Taken
    answer = (node_frame_of n t bytes).answer

    go :
        (b : Bool) →
        differences_in (cond (b && ltb (column_of answer) columns) (answer ∷ []) []) ≡ cond b (moves_of answer) []
    go true = counted_moves answer
    go false = refl
moves_one i n (read domain t) = refl
moves_one i n (set domain t s ns) = refl
moves_one i n (cycle t out) = refl
moves_one i n (confirm domain t counter out) = refl

pub heard_moves : (i : ℕ) (n : Node) (cs : List Call) → differences_in (heard_in i n cs) ≡ moves_in i n cs
heard_moves i n [] = refl
heard_moves i n (c ∷ rest) =
    differences_append (heard_by i n c) (heard_in i (node_after n c) rest)
    ∙ ap (λ (ds : List ℤ). ds ++ differences_in (heard_in i (node_after n c) rest)) (moves_one i n c)
    ∙ ap (λ (ds : List ℤ). moves_by i n c ++ ds) (heard_moves i (node_after n c) rest)

-- ---- no more of them than calls

one_few : (i : ℕ) (n : Node) (c : Call) → length (heard_by i n c) ≤ 1
one_few i n (frame t bytes) =
    either (λ (answers : List (Outcome Taken)). length answers ≤ 1)
    (eqb (addressed_by bytes) i && ltb (column_of (node_frame_of n t bytes).answer) columns)
    (omega arith) (omega arith)
one_few i n (read domain t) = omega arith
one_few i n (set domain t s ns) = omega arith
one_few i n (cycle t out) = omega arith
one_few i n (confirm domain t counter out) = omega arith

pub heard_few : (i : ℕ) (n : Node) (cs : List Call) → length (heard_in i n cs) ≤ length cs
heard_few i n [] = omega arith
heard_few i n (c ∷ rest) =
    omega (
      arith,
      one_few i n c,
      heard_few i (node_after n c) rest,
      length-append (heard_by i n c) (heard_in i (node_after n c) rest),
    )

differences_few : (answers : List (Outcome Taken)) → length (differences_in answers) ≤ length answers
differences_few [] = omega arith
differences_few ((Ok Opened) ∷ rest) = omega (arith, differences_few rest)
differences_few ((Ok First) ∷ rest) = omega (arith, differences_few rest)
differences_few (Ok (Updated d) ∷ rest) = omega (arith, differences_few rest)
differences_few (Err refusal ∷ rest) = omega (arith, differences_few rest)

pub moves_few : (i : ℕ) (n : Node) (cs : List Call) → length (moves_in i n cs) ≤ length cs
moves_few i n cs =
    let same = ap length (heard_moves i n cs) in
    omega (arith, same, heard_few i n cs, differences_few (heard_in i n cs))

-- ---- and each of 64 signed bits

both_within : (xs ys : List ℤ) → AllWithin64 xs → AllWithin64 ys → AllWithin64 (xs ++ ys)
both_within [] ys h k = k
both_within (x ∷ xs) ys h k = (h.0, both_within xs ys h.1 k)

one_within : (i : ℕ) (n : Node) (c : Call) → AllWithin64 (moves_by i n c)
one_within i n (frame t bytes) =
    either AllWithin64 (eqb (addressed_by bytes) i)
    (frame_within (record_at n.domains (addressed_by bytes)) n.kept t bytes) tt
one_within i n (read domain t) = tt
one_within i n (set domain t s ns) = tt
one_within i n (cycle t out) = tt
one_within i n (confirm domain t counter out) = tt

pub moves_within : (i : ℕ) (n : Node) (cs : List Call) → AllWithin64 (moves_in i n cs)
moves_within i n [] = tt
moves_within i n (c ∷ rest) =
    both_within (moves_by i n c) (moves_in i (node_after n c) rest) (one_within i n c)
    (moves_within i (node_after n c) rest)
