-- Laws of sums over lists. No contract cites this file.
--   sum_set     one element in another's place
--   one_at_most an element is at most the sum
--   at_set      what stands at a place after one is stored
-- Assumes nothing.
use Prim.Native.Nat.{ℕ, zero, suc, ◌+◌, ◌≤◌, ◌<◌}
use mathlib.Core.Path.{◌≡◌, sym, ap, ◌∙◌}
use mathlib.Core.Bool.{cond}
use mathlib.Core.List.{List, [], ◌∷◌}
use native.Mathlib.Omega.{arith}
use lib.Dec.{eqb}
use lib.ListN.{length, get_or, set}
use lib.Seq.{get_or-set_same, get_or-set_other}
use borrow.Author.Tests.{eqb-true, eqb-false}
use Rattle.promise.proofs.Tests.{either_told}
use Rattle.sheet_laws.specs.Totals.{sum_by}

pub sum_set :
    {A : Type 0} (f : A → ℕ) (l : List A) (i : ℕ) (y d : A) → i < length l →
    sum_by f (set l i y) + f (get_or l i d) ≡ sum_by f l + f y
sum_set f [] i y d h = absurd (omega (arith, h))
sum_set f (x ∷ xs) zero y d h = omega arith
sum_set f (x ∷ xs) (suc i) y d h = let rest = sum_set f xs i y d (omega (arith, h)) in omega arith

pub one_at_most : {A : Type 0} (f : A → ℕ) (l : List A) (i : ℕ) (d : A) → i < length l → f (get_or l i d) ≤ sum_by f l
one_at_most f [] i d h = absurd (omega (arith, h))
one_at_most f (x ∷ xs) zero d h = omega arith
one_at_most f (x ∷ xs) (suc i) d h = let rest = one_at_most f xs i d (omega (arith, h)) in omega arith

pub at_set :
    {A : Type 0} (l : List A) (i j : ℕ) (y d : A) → i < length l →
    get_or (set l i y) j d ≡ cond (eqb i j) y (get_or l j d)
at_set l i j y d h =
    either_told (λ z. get_or (set l i y) j d ≡ z) (eqb i j)
    (λ e. ap (λ (k : ℕ). get_or (set l i y) k d) (sym (eqb-true i j e)) ∙ get_or-set_same l i y d h)
    (λ e. get_or-set_other l i j y d (λ same. eqb-false i j e (sym same)))
