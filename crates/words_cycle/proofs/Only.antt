-- No two results satisfy the promise of `cycle_in`: a result is the number, the words, the lent bytes and the count. No
-- contract cites this file.
-- Assumes nothing.
use Prim.Native.Nat.{ℕ}
use mathlib.Core.Path.{sym, ap, ◌∙◌}
use mathlib.Core.Bool.{cond}
use mathlib.Core.List.{List, [], ◌∷◌}
use lib.Dec.{eqb}
use lib.ListN.{length}
use Rattle.promise.specs.Only.{OnlyOne}
use Rattle.round.specs.Round.{pasted}
use Rattle.words_cycle.specs.Cycle.{went_from, cycled_words, CycledBy}

pub cycle_in_only :
    (words : List ℕ) (t : ℕ) (before told : List ℕ) →
    OnlyOne (λ (r : ℕ × List ℕ × List ℕ × List ℕ). CycledBy words t before told r.0 r.1 r.2 r.3)
cycle_in_only words t before told x y p q =
    let a = p.number ∙ sym q.number in
    let b = p.words_after ∙ ap (λ (r : ℕ). cond (eqb r 0) (cycled_words words t) words) a ∙ sym q.words_after in
    let c =
    p.bytes
    ∙ ap (λ (r : ℕ). cond (eqb r 0) (pasted 0 (went_from words t).frames before) before) a
    ∙ sym q.bytes in
    let d =
    p.counts ∙ ap (λ (r : ℕ). cond (eqb r 0) (length (went_from words t).frames ∷ []) told) a ∙ sym q.counts in
    λ i. (a i, b i, c i, d i)
