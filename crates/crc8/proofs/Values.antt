-- The list of a function's values at 0, 1, 2 and so on: a table that follows one rule. No contract
-- cites this file.
--   values_at    what stands at k is the function's value at k
--   values_all   a list is the list of its own elements
-- Assumes nothing.
use mathlib.Core.Path.{◌≡◌, refl, ap}
use mathlib.Core.List.{List, [], ◌∷◌}
use Prim.Native.Nat.{ℕ, zero, suc, ◌<◌}
use native.Mathlib.Nat.{le_of_suc-le-suc, not-suc-le-zero}
use lib.ListN.{length, get_or}

abbrev pub values_of : (ℕ → ℕ) → ℕ → List ℕ
values_of f zero = []
values_of f (suc n) = f 0 ∷ values_of (λ k. f (suc k)) n

pub values_at : (f : ℕ → ℕ) (n k : ℕ) → k < n → get_or (values_of f n) k 0 ≡ f k
values_at f zero k h = absurd (not-suc-le-zero h)
values_at f (suc n) zero h = refl
values_at f (suc n) (suc k) h = values_at (λ j. f (suc j)) n k (le_of_suc-le-suc h)

pub values_all : (l : List ℕ) → values_of (λ k. get_or l k 0) (length l) ≡ l
values_all [] = refl
values_all (x ∷ l) = ap (λ (rest : List ℕ). x ∷ rest) (values_all l)
