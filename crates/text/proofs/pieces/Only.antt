-- No two results satisfy the promise of F, as `F_only` for each public function F that reads and writes nothing. A
-- result with lent bytes is a pair of both. No contract cites this file.
-- Assumes nothing.
use Prim.Native.Nat.{ℕ}
use mathlib.Core.Path.{◌≡◌, sym, ap, ◌∙◌}
use mathlib.Core.List.{List}
use lib.ListN.{drop}
use lib.Seq.{paste}
use Rattle.promise.specs.Only.{OnlyOne}
use Rattle.promise.proofs.Laws.{equation_only}
use Rattle.text.specs.Pieces.{KeptRest, place_for, next_item}

pub keep_rest_only :
    (used held : ℕ) (before : List ℕ) →
    OnlyOne (λ (r : ℕ × List ℕ). KeptRest used held before r.0 r.1)
keep_rest_only used held before x y p q =
    let count = p.count ∙ sym q.count in
    let bytes = p.bytes ∙ ap (paste before 0 (drop used before)) count ∙ sym q.bytes in
    λ i. (count i, bytes i)

pub with_room_only : (at line length : ℕ) → OnlyOne (λ (r : ℕ). r ≡ place_for at line length)
with_room_only at line length = equation_only (place_for at line length)

pub next_item_only : (item : ℕ) → OnlyOne (λ (r : ℕ). r ≡ next_item item)
next_item_only item = equation_only (next_item item)
