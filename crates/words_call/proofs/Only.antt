-- No two results satisfy the promise of F, as `F_only` for each public function F. A result with lent words or bytes
-- is a pair of them all. No contract cites this file.
-- Assumes nothing.
use Prim.Native.Nat.{ℕ}
use mathlib.Core.Path.{sym, ◌∙◌}
use mathlib.Core.List.{List}
use Rattle.promise.specs.Only.{OnlyOne}
use Rattle.words_call.specs.Calls.{ReadIn, SetIn, ConfirmedBy}

pub read_in_only :
    (words : List ℕ) (domain t : ℕ) (before : List ℕ) →
    OnlyOne (λ (r : ℕ × List ℕ). ReadIn words domain t before r.0 r.1)
read_in_only words domain t before x y p q =
    let number = p.number ∙ sym q.number in
    let shows = p.shows ∙ sym q.shows in
    λ i. (number i, shows i)

pub set_in_only :
    (words : List ℕ) (domain t seconds nanoseconds : ℕ) →
    OnlyOne (λ (r : ℕ × List ℕ). SetIn words domain t seconds nanoseconds r.0 r.1)
set_in_only words domain t seconds nanoseconds x y p q =
    let number = p.number ∙ sym q.number in
    let after = p.words_after ∙ sym q.words_after in
    λ i. (number i, after i)

pub confirm_in_only :
    (words : List ℕ) (domain t counter : ℕ) (before : List ℕ) →
    OnlyOne (λ (r : ℕ × (List ℕ × List ℕ)). ConfirmedBy words domain t counter before r.0 r.1.0 r.1.1)
confirm_in_only words domain t counter before x y p q =
    let number = p.number ∙ sym q.number in
    let after = p.words_after ∙ sym q.words_after in
    let bytes = p.bytes ∙ sym q.bytes in
    λ i. (number i, (after i, bytes i))
