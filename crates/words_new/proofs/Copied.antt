-- Words copied one after another into a list of as many. No contract cites this file.
--   copied_on    one word more
--   copied_all   and in the end all of them
-- Assumes nothing.
use Prim.Native.Nat.{ℕ, ◌+◌, ◌≤◌, ◌<◌}
use mathlib.Core.Path.{◌≡◌, sym, ap, ◌∙◌}
use mathlib.Core.List.{List, [], ◌∷◌, ◌++◌}
use native.Mathlib.Numerals.{add-one}
use lib.ListN.{length, get_or, take, set}
use lib.Seq.{take-suc, take-suc-set, take_all}

module _ (to from : List ℕ) (i : ℕ) where
  pub copied_on :
      i < length to → i < length from → take i to ≡ take i from →
      take (i + 1) (set to i (get_or from i 0)) ≡ take (i + 1) from
  copied_on h k e =
      ap (λ (n : ℕ). take n (set to i (get_or from i 0))) (add-one i)
      ∙ take-suc-set to i (get_or from i 0) h
      ∙ ap (λ (l : List ℕ). l ++ get_or from i 0 ∷ []) e
      ∙ sym (take-suc from i 0 k)
      ∙ ap (λ (n : ℕ). take n from) (sym (add-one i))

  pub copied_all : length to ≤ i → length from ≤ i → take i to ≡ take i from → to ≡ from
  copied_all h k e = sym (take_all i to h) ∙ e ∙ take_all i from k
