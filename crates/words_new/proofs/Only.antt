-- No two results satisfy the promise of F, as `F_only` for each public function F. A result with lent
-- words is a pair of both. No contract cites this file.
-- Assumes nothing.
use Prim.Native.Nat.{ℕ}
use mathlib.Core.Path.{sym, ◌∙◌}
use mathlib.Core.List.{List}
use Rattle.promise.specs.Only.{OnlyOne}
use Rattle.words_new.specs.New.{NewIn}

pub new_in_only : (given : List ℕ) → OnlyOne (λ (r : ℕ × List ℕ). NewIn given r.0 r.1)
new_in_only given x y p q =
    let number = p.number ∙ sym q.number in
    let words = p.words_after ∙ sym q.words_after in
    λ i. (number i, words i)
