-- The sheet of records is that of their calls, in whatever pieces their bytes come. No contract cites this file.
--   records_read     the account after records
--   records_add_up   the counts that are printed are the records read
--   in_pieces        bytes in pieces are taken as if they had come at once
-- Assumes nothing.
use Rattle.std.specs.Prelude.{None, Option, Some}
use Prim.Native.Nat.{ℕ, zero, suc, ◌+◌, ◌*◌, ◌/◌, ◌^◌, ◌≤◌, ◌<◌}
use mathlib.Core.Path.{◌≡◌, refl, sym, ap, subst, ◌∙◌}
use mathlib.Core.Bool.{Bool, true, false, cond}
use mathlib.Core.List.{List, [], ◌∷◌, ◌++◌, append_assoc, append-nil}
use native.Mathlib.Nat.{add-zero, zero-add}
use native.Mathlib.Omega.{arith}
use lib.Dec.{ltb, leb-suc-suc}
use lib.ListN.{length, take, drop, length-drop, length-append}
use lib.Seq.{drop-drop, take-append-le, drop-append-le}
use borrow.Author.Tests.{lt-ltb}
use Rattle.std.specs.Prelude.{Option}
use Rattle.text.specs.Pieces.{next_item}
use Rattle.bench_record.specs.Record.{asked_by, payload_of, lent}
use Rattle.node.specs.declared.Node.{Node}
use Rattle.node_call.specs.declared.Request.{Request}
use Rattle.node_call.specs.declared.Request.TheVariants as asked
use Rattle.node_call.specs.Calls.{Call as NodeCall, node_after, node_after_all, answer_of}
use Rattle.node_call.specs.Called.{call_of}
use Rattle.sheet_tally.specs.declared.entry.Entry.{Entry}
use Rattle.sheet_tally.specs.Entry.{entry_of}
use Rattle.sheet_tally.specs.Sheet.{sheet_with}
use Rattle.sheet_step.specs.declared.Account.{Account}
use Rattle.sheet_step.specs.Account.{account_of, called, after_asked, after_record, after_records, records_of}
use Rattle.sheet_step.proofs.Records.{first_record, no_record}
use Rattle.sheet_laws.specs.Calls.{asked_then, calls_of, entry_in, sheet_after}
use Rattle.sheet_laws.specs.Totals.{printed_count}
use Rattle.sheet_laws.specs.Records.{RecordsRead, RecordsAddUp, joined, taken_of, rest_of, account_in, held_in, InPieces}
use Rattle.sheet_laws.proofs.Tally.{next}
use Rattle.sheet_laws.proofs.AddUp.{counts_add_up}

-- ---- from an account on

record ReadOn (a : Account) (count : ℕ) (cs : List NodeCall) (b : Account) : Type 0 where
  node : b.node ≡ node_after_all a.node cs
  sheet : b.sheet ≡ sheet_after a.node a.sheet cs
  records : b.records ≡ a.records + length cs
  bad : b.bad ≡ ltb (length cs) count

-- a record after a bad one is not read; another is
skipped : (a : Account) (r : List ℕ) → a.bad ≡ true → after_record a r ≡ a
skipped a r e = ap (λ (b : Bool). cond b a (after_asked a (asked_by r) (payload_of r))) e

taken : (a : Account) (r : List ℕ) → a.bad ≡ false → after_record a r ≡ after_asked a (asked_by r) (payload_of r)
taken a r e = ap (λ (b : Bool). cond b a (after_asked a (asked_by r) (payload_of r))) e

ended : (a : Account) (rs : List (List ℕ)) → a.bad ≡ true → after_records a rs ≡ a
ended a [] e = refl
ended a (r ∷ rest) e = ap (λ (b : Account). after_records b rest) (skipped a r e) ∙ ended a rest e

-- a call that is no frame goes to the others, whatever its payload
entry_same :
    (n : Node) (q : Request) (payload : List ℕ) → let c = call_of q payload lent in
    entry_of (answer_of n c) payload ≡ entry_in n c
entry_same n (asked.Frame t) payload = refl
entry_same n (asked.Read domain t) payload = refl
entry_same n (asked.Set domain t s ns) payload = refl
entry_same n (asked.Cycle t) payload = refl
entry_same n (asked.Confirm domain t counter) payload = refl

bad_on :
    (a : Account) (payload : List ℕ) (rest : List (List ℕ)) →
    ReadOn a (suc (length rest)) [] (after_records (after_asked a None payload) rest)
bad_on a payload rest =
    let e = ended (after_asked a None payload) rest refl in
    record {
      node = ap (λ (b : Account). b.node) e;
      sheet = ap (λ (b : Account). b.sheet) e;
      records = ap (λ (b : Account). b.records) e ∙ sym (add-zero a.records);
      bad = ap (λ (b : Account). b.bad) e ∙ sym (lt-ltb 0 (suc (length rest)) (omega arith));
    }

call_on :
    (a : Account) (q : Request) (payload : List ℕ) (count : ℕ) (cs : List NodeCall) (b : Account) →
    a.records + 1 < 2 ^ 64 → ReadOn (called a q payload) count cs b →
    ReadOn a (suc count) (call_of q payload lent ∷ cs) b
call_on a q payload count cs b few h =
    let c = call_of q payload lent in
    let up = next a.records few in
    let told : b.records ≡ next_item a.records + length cs = h.records in
    record {
      node = h.node;
      sheet =
          h.sheet
          ∙ ap (λ (e : Option Entry). sheet_after (node_after a.node c) (sheet_with a.sheet e) cs)
          (entry_same a.node q payload);
      records = omega (arith, up, told);
      bad = h.bad ∙ sym (leb-suc-suc (suc (length cs)) count);
    }

asked_on :
    (a : Account) (rest : List (List ℕ)) → a.records + 1 < 2 ^ 64 →
    ((q : Request) (payload : List ℕ) →
    ReadOn (called a q payload) (length rest) (calls_of rest) (after_records (called a q payload) rest)) →
    (x : Option Request) (payload : List ℕ) →
    ReadOn a (suc (length rest)) (asked_then x payload (calls_of rest)) (after_records (after_asked a x payload) rest)
asked_on a rest few more None payload = bad_on a payload rest
asked_on a rest few more (Some q) payload =
    call_on a q payload (length rest) (calls_of rest) (after_records (called a q payload) rest) few (more q payload)

read_on :
    (a : Account) (rs : List (List ℕ)) → a.bad ≡ false → a.records + length rs < 2 ^ 64 →
    ReadOn a (length rs) (calls_of rs) (after_records a rs)
read_on a [] good few =
    record { node = refl; sheet = refl; records = sym (add-zero a.records); bad = good }
read_on a (r ∷ rest) good few =
    let up = next a.records (omega arith) in
    subst
    (λ (b : Account).
    ReadOn a (suc (length rest)) (asked_then (asked_by r) (payload_of r) (calls_of rest)) (after_records b rest))
    (sym (taken a r good))
    (asked_on a rest (omega arith) (λ q payload. read_on (called a q payload) rest good (omega (arith, up)))
    (asked_by r) (payload_of r))

pub records_read : RecordsRead
records_read n rs few =
    let h = read_on (account_of n) rs refl (omega arith) in
    record { node = h.node; sheet = h.sheet; records = h.records ∙ zero-add (length (calls_of rs)); bad = h.bad }

-- ---- no more calls than records

asked_few :
    (x : Option Request) (payload : List ℕ) (rest : List NodeCall) → length (asked_then x payload rest) ≤ suc (length rest)
asked_few (Some q) payload rest = omega arith
asked_few None payload rest = omega arith

calls_few : (rs : List (List ℕ)) → length (calls_of rs) ≤ length rs
calls_few [] = omega arith
calls_few (r ∷ rest) = omega (arith, asked_few (asked_by r) (payload_of r) (calls_of rest), calls_few rest)

pub records_add_up : RecordsAddUp
records_add_up n rs few =
    let h = records_read n rs few in
    ap (λ (m : Node). printed_count m (after_records (account_of n) rs).sheet) h.node
    ∙ ap (printed_count (node_after_all n (calls_of rs))) h.sheet
    ∙ counts_add_up n (calls_of rs) (omega (arith, calls_few rs))
    ∙ sym h.records

-- ---- pieces

split :
    (k : ℕ) (a : Account) (b r : List ℕ) → length b / 20 ≡ k →
    taken_of a (b ++ r) ≡ taken_of (after_records a (records_of k b)) (drop (k * 20) b ++ r)
split zero a b r e = refl
split (suc k) a b r e =
    let whole : 20 ≤ length b = omega arith in
    let here = after_record a (take 20 b) in
    let further : 20 + k * 20 ≡ suc k * 20 = omega arith in
    ap (after_records a) (first_record (b ++ r) (omega (arith, length-append b r)))
    ∙ ap (λ (x : List ℕ). taken_of (after_record a x) (drop 20 (b ++ r))) (take-append-le 20 b r whole)
    ∙ ap (taken_of here) (drop-append-le 20 b r whole)
    ∙ split k here (drop 20 b) r (omega (arith, length-drop 20 b))
    ∙ ap (λ (x : List ℕ). taken_of (after_records here (records_of k (drop 20 b))) (x ++ r))
    (drop-drop (k * 20) 20 b ∙ ap (λ (j : ℕ). drop j b) further)

rest_split : (b r : List ℕ) → rest_of (b ++ r) ≡ rest_of (rest_of b ++ r)
rest_split b r =
    let m = length b / 20 * 20 in
    let within : m ≤ length b = omega arith in
    let left = length-drop m b in
    let count = length-append (drop m b) r in
    let all = length-append b r in
    let further : length (b ++ r) / 20 * 20 ≡ m + length (drop m b ++ r) / 20 * 20 = omega (arith, left, count, all) in
    ap (λ (j : ℕ). drop j (b ++ r)) further
    ∙ sym (drop-drop (length (drop m b ++ r) / 20 * 20) m (b ++ r))
    ∙ ap (drop (length (drop m b ++ r) / 20 * 20)) (drop-append-le m b r within)

rest_short : (b : List ℕ) → length (rest_of b) < 20
rest_short b = omega (arith, length-drop (length b / 20 * 20) b)

account_in_lem :
    (a : Account) (held : List ℕ) (pieces : List (List ℕ)) → length held < 20 →
    account_in a held pieces ≡ taken_of a (held ++ joined pieces)
account_in_lem a held [] h = sym (ap (taken_of a) (append-nil held) ∙ ap (after_records a) (no_record held h))
account_in_lem a held (piece ∷ rest) h =
    let b = held ++ piece in
    account_in_lem (taken_of a b) (rest_of b) rest (rest_short b)
    ∙ sym (split (length b / 20) a b (joined rest) refl)
    ∙ ap (taken_of a) (append_assoc held piece (joined rest))

held_in_lem :
    (held : List ℕ) (pieces : List (List ℕ)) → length held < 20 → held_in held pieces ≡ rest_of (held ++ joined pieces)
held_in_lem held [] h =
    let none : 0 ≡ length (held ++ []) / 20 * 20 = omega (arith, length-append held []) in
    sym (append-nil held) ∙ ap (λ (j : ℕ). drop j (held ++ [])) none
held_in_lem held (piece ∷ rest) h =
    let b = held ++ piece in
    held_in_lem (rest_of b) rest (rest_short b)
    ∙ sym (rest_split b (joined rest))
    ∙ ap rest_of (append_assoc held piece (joined rest))

pub in_pieces : InPieces
in_pieces a pieces = (account_in_lem a [] pieces (omega arith), held_in_lem [] pieces (omega arith))
