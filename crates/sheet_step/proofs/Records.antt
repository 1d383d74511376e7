-- Bytes in records of 20. No contract cites this file.
--   first_record   20 bytes or more begin with a record
--   no_record      fewer make none
--   one_on         what is left from a place on, a record further
--   at_end         and where there is none
--   one_taken      the same where a record stands first
--   none_taken     and where there is none
-- Assumes nothing.
use Prim.Native.Nat.{ℕ, suc, ◌+◌, ◌-◌, ◌/◌, ◌≤◌, ◌<◌}
use mathlib.Core.Path.{◌≡◌, ap, ◌∙◌}
use mathlib.Core.List.{List, [], ◌∷◌, ◌++◌}
use native.Mathlib.Omega.{arith}
use lib.ListN.{length, take, drop, length-drop, length-append}
use lib.Seq.{drop-drop, take_at, drop_at}
use Rattle.sheet_step.specs.declared.Account.{Account}
use Rattle.sheet_step.specs.Account.{after_record, after_records, records_of}

-- ---- the whole records of some bytes
abbrev pub whole_of : List ℕ → List (List ℕ)
whole_of bytes = records_of (length bytes / 20) bytes

pub first_record : (bytes : List ℕ) → 20 ≤ length bytes → whole_of bytes ≡ take 20 bytes ∷ whole_of (drop 20 bytes)
first_record bytes h =
    let count : length bytes / 20 ≡ suc (length (drop 20 bytes) / 20) = omega (arith, length-drop 20 bytes) in
    ap (λ (k : ℕ). records_of k bytes) count

pub no_record : (bytes : List ℕ) → length bytes < 20 → whole_of bytes ≡ []
no_record bytes h = let none : length bytes / 20 ≡ 0 = omega arith in ap (λ (k : ℕ). records_of k bytes) none

-- ---- what is left from a place on makes of an account what the record there does, and then what is left after it
pub one_on :
    (a : Account) (bytes : List ℕ) (at : ℕ) → 20 ≤ length bytes - at →
    after_records a (whole_of (drop at bytes))
    ≡ after_records (after_record a (take (at + 20 - at) (drop at bytes))) (whole_of (drop (at + 20) bytes))
one_on a bytes at h =
    let whole : 20 ≤ length (drop at bytes) = omega (arith, length-drop at bytes) in
    let twenty : 20 ≡ at + 20 - at = omega arith in
    ap (after_records a) (first_record (drop at bytes) whole)
    ∙ ap (λ (rest : List ℕ). after_records (after_record a (take 20 (drop at bytes))) (whole_of rest))
    (drop-drop 20 at bytes)
    ∙ ap (λ (k : ℕ). after_records (after_record a (take k (drop at bytes))) (whole_of (drop (at + 20) bytes))) twenty

pub at_end :
    (a : Account) (bytes : List ℕ) (at : ℕ) → length bytes - at < 20 → after_records a (whole_of (drop at bytes)) ≡ a
at_end a bytes at h =
    let few : length (drop at bytes) < 20 = omega (arith, length-drop at bytes) in
    ap (after_records a) (no_record (drop at bytes) few)

-- ---- what is left makes of an account what the record that stands first does, and then what is left after it
pub one_taken :
    (a : Account) (rest record_bytes after : List ℕ) → rest ≡ record_bytes ++ after → length record_bytes ≡ 20 →
    after_records a (whole_of rest) ≡ after_records (after_record a record_bytes) (whole_of after)
one_taken a rest record_bytes after e h =
    let whole : 20 ≤ length rest = omega (arith, ap length e, length-append record_bytes after) in
    let first : take 20 rest ≡ record_bytes = ap (take 20) e ∙ take_at record_bytes after 20 h in
    let others : drop 20 rest ≡ after = ap (drop 20) e ∙ drop_at record_bytes after 20 h in
    ap (after_records a) (first_record rest whole)
    ∙ ap (λ (r : List ℕ). after_records (after_record a r) (whole_of (drop 20 rest))) first
    ∙ ap (λ (left : List ℕ). after_records (after_record a record_bytes) (whole_of left)) others

pub none_taken : (a : Account) (rest : List ℕ) → length rest < 20 → after_records a (whole_of rest) ≡ a
none_taken a rest h = ap (after_records a) (no_record rest h)
