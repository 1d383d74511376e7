-- Laws of `fields_at`, for any fields and any step. No contract cites this file.
--   fields_length   so many they are
--   fields_suc      one field more stands at the end
--   fields_take     the first of them are as many fields
--   fields_put      a field stored behind the first k of a list that are k fields
-- Assumes nothing.
use Prim.Native.Nat.{ℕ, zero, suc, ◌+◌, ◌*◌, ◌≤◌, ◌<◌}
use mathlib.Core.Path.{◌≡◌, refl, sym, ap, ◌∙◌}
use mathlib.Core.List.{List, [], ◌∷◌, ◌++◌}
use native.Mathlib.Nat.{mul-suc}
use native.Mathlib.Numerals.{add-one}
use native.Mathlib.Omega.{arith}
use lib.ListN.{length, take, set}
use lib.Seq.{take-suc-set}
use Rattle.text.specs.Fields.{fields_at}

module _ {A : Type 0} (field : ℕ → A) (step : ℕ) where
  pub fields_length : (k at : ℕ) → length (fields_at field step k at) ≡ k
  fields_length zero at = refl
  fields_length (suc k) at = ap suc (fields_length k (at + step))

  pub fields_suc :
      (k at : ℕ) → fields_at field step (suc k) at ≡ fields_at field step k at ++ (field (at + step * k) ∷ [])
  fields_suc zero at =
      let here : at ≡ at + step * 0 = omega arith in
      ap (λ (p : ℕ). field p ∷ []) here
  fields_suc (suc k) at =
      let there : at + step + step * k ≡ at + step * suc k = omega (arith, mul-suc step k) in
      ap (λ (l : List A). field at ∷ l)
      (fields_suc k (at + step) ∙ ap (λ (p : ℕ). fields_at field step k (at + step) ++ (field p ∷ [])) there)

  pub fields_take : (n k at : ℕ) → n ≤ k → take n (fields_at field step k at) ≡ fields_at field step n at
  fields_take zero k at h = refl
  fields_take (suc n) zero at h = absurd (omega arith)
  fields_take (suc n) (suc k) at h = ap (λ (l : List A). field at ∷ l) (fields_take n k (at + step) (omega arith))

  pub fields_put :
      (l : List A) (k at p : ℕ) (x : A) → k < length l → p ≡ at + step * k → x ≡ field p →
      take k l ≡ fields_at field step k at → take (k + 1) (set l k x) ≡ fields_at field step (k + 1) at
  fields_put l k at p x h there is before =
      rw add-one
      (take-suc-set l k x h ∙ (λ i. before i ++ ((is ∙ ap field there) i ∷ [])) ∙ sym (fields_suc k at))
