-- Laws of a sum. No contract cites this file.
--   goes_behind, goes_ahead   where a D goes, by its sign
--   told_plus, told_minus     what a sum tells, by which of its two numbers is more
--   told_halves               the same by the halves of its two numbers
--   sum_exact                 after fewer than 2^64 D of 64 bits the sum is their total
--   told_over                 a sum tells none exactly where it is outside signed 64 bits
-- Assumes nothing.
use Prim.Native.Nat.{ℕ, suc, ◌+◌, ◌-◌, ◌*◌, ◌^◌, ◌≤◌, ◌<◌}
use mathlib.Core.Path.{◌≡◌, refl, sym, ap, ◌∙◌}
use mathlib.Core.Bool.{true, false}
use mathlib.Core.List.{List, [], ◌∷◌}
use Rattle.std.specs.Prelude.{Option, None, cond}
use native.Mathlib.Nat.{zero-add, le_of_lt, lt_of_le_of_lt, mul-le-mul_right}
use native.Mathlib.Omega.{arith}
use lib.IntN.{ℤ, pos, negsuc, nat_abs, sub_ℕ, ◌+ℤ◌, +ℤ_idl, +ℤ_idr, +ℤ_assoc}
use lib.ListN.{length}
use lib.Signed.{lt_z}
use borrow.Author.Tests.{ltb-true, ltb-false, lt-ltb, le-ltb, leb-true, leb-false, eqb-true, eqb-false}
use lib.Dec.{leb, ltb, eqb, lit<}
use Rattle.promise.proofs.Tests.{either_told}
use Rattle.sheet_sum.specs.declared.Sum.{Sum}
use Rattle.sheet_sum.specs.declared.Told.{Told}
use Rattle.sheet_sum.specs.Wide.{more_of}
use Rattle.sheet_sum.specs.Sum.{
  total,
  Within64,
  AllWithin64,
  no_sum,
  sum_with,
  sum_with_all,
  sum_of,
  plus_of,
  minus_of,
  told_of,
}
use Rattle.sheet_sum.proofs.Halves.{value_of, wide_of, gap_of, gap_value}

-- ---- a D more

pub goes_behind :
    (s : Sum) (d : ℤ) → lt_z d (pos 0) ≡ true →
    record { ahead = s.ahead; behind = more_of s.behind (nat_abs d) } ≡ sum_with s d
goes_behind s (pos m) e = absurd (omega (arith, ltb-true m 0 e))
goes_behind s (negsuc m) e = refl

pub goes_ahead :
    (s : Sum) (d : ℤ) → lt_z d (pos 0) ≡ false →
    record { ahead = more_of s.ahead (nat_abs d); behind = s.behind } ≡ sum_with s d
goes_ahead s (pos m) e = refl
goes_ahead s (negsuc m) e = cc

-- ---- what a sum tells

not_less : (a b : ℕ) → b - a ≡ 0 → plus_of (a - b) ≡ told_of (sub_ℕ a b)
not_less a b e = rw (le-ltb a b (omega arith))

less : (a b : ℕ) → (b - a ≡ 0 → ⊥) → minus_of (b - a) ≡ told_of (sub_ℕ a b)
less a b some =
    let h : a < b = omega arith in
    let e : b - a ≡ suc (b - suc a) = omega arith in
    rw (lt-ltb a b h) (ap minus_of e)

module _ (s : Sum) where
  pub told_plus : eqb (s.behind - s.ahead) 0 ≡ true → plus_of (s.ahead - s.behind) ≡ told_of (sum_of s)
  told_plus e = not_less s.ahead s.behind (eqb-true _ 0 e)

  pub told_minus : eqb (s.behind - s.ahead) 0 ≡ false → minus_of (s.behind - s.ahead) ≡ told_of (sum_of s)
  told_minus e = less s.ahead s.behind (λ z. eqb-false _ 0 e z)

  -- the gaps, as their halves have them, are those that the sum is told by
  pub told_halves :
      let ahead = value_of (gap_of (wide_of s.ahead) (wide_of s.behind)) in
      let behind = value_of (gap_of (wide_of s.behind) (wide_of s.ahead)) in
      told_of (sum_of s) ≡ cond (eqb behind 0) (plus_of ahead) (minus_of behind)
  told_halves =
      let ahead = sym (gap_value s.ahead s.behind) in
      let behind = sym (gap_value s.behind s.ahead) in
      either_told (λ (told : Option Told). told_of (sum_of s) ≡ told) (eqb (s.behind - s.ahead) 0)
      (λ e. sym (told_plus e)) (λ e. sym (told_minus e))
      ∙ (λ i. cond (eqb (behind i) 0) (plus_of (ahead i)) (minus_of (behind i)))

-- ---- a difference of naturals, with more on one side

move : (a m k : ℕ) → sub_ℕ (a + m) (a + k) ≡ sub_ℕ m k
move a m k =
    either_told (λ (z : ℤ). sub_ℕ (a + m) (a + k) ≡ z) (ltb m k)
    (λ e.
    let h = ltb-true m k e in
    let less : a + m < a + k = omega arith in
    let same : a + k - suc (a + m) ≡ k - suc m = omega arith in
    rw (lt-ltb (a + m) (a + k) less) (ap negsuc same))
    (λ e.
    let h = ltb-false m k e in
    let more : a + k ≤ a + m = omega arith in
    let same : a + m - (a + k) ≡ m - k = omega arith in
    rw (le-ltb (a + m) (a + k) more) (ap pos same))

ahead_more : (a b m : ℕ) → sub_ℕ (a + m) b ≡ sub_ℕ a b +ℤ pos m
ahead_more a b m =
    either_told (λ (z : ℤ). sub_ℕ (a + m) b ≡ z +ℤ pos m) (ltb a b)
    (λ e.
    let h = ltb-true a b e in
    let same : b ≡ a + suc (b - suc a) = omega arith in
    ap (sub_ℕ (a + m)) same ∙ move a m (suc (b - suc a)))
    (λ e.
    let h = ltb-false a b e in
    let more : b ≤ a + m = omega arith in
    let same : a + m - b ≡ a - b + m = omega arith in
    rw (le-ltb (a + m) b more) (ap pos same))

behind_more : (a b m : ℕ) → sub_ℕ a (b + suc m) ≡ sub_ℕ a b +ℤ negsuc m
behind_more a b m =
    either_told (λ (z : ℤ). sub_ℕ a (b + suc m) ≡ z +ℤ negsuc m) (ltb a b)
    (λ e.
    let h = ltb-true a b e in
    let less : a < b + suc m = omega arith in
    let same : b + suc m - suc a ≡ suc (b - suc a + m) = omega arith in
    rw (lt-ltb a (b + suc m) less) (ap negsuc same))
    (λ e.
    let h = ltb-false a b e in
    let same : a ≡ b + (a - b) = omega arith in
    ap (λ (x : ℕ). sub_ℕ x (b + suc m)) same ∙ move b (a - b) (suc m))

-- ---- the sum is exact as long as neither number is held

more_value : (w m : ℕ) → w + m < 2 ^ 128 → more_of w m ≡ w + m
more_value w m h = omega arith

module _ (top : ℕ) (fits : (n : ℕ) → n ≤ top → n < 2 ^ 128) where
  pub record Room (s : Sum) (left : ℕ) : Type 0 where
    pub ahead : s.ahead + left * 2 ^ 63 ≤ top
    pub behind : s.behind + left * 2 ^ 63 ≤ top

  with_one :
      (s : Sum) (d : ℤ) (left : ℕ) → Within64 d → Room s (suc left) →
      (sum_of (sum_with s d) ≡ sum_of s +ℤ d) × Room (sum_with s d) left
  with_one s (pos m) left h r =
      let a = s.ahead in
      let b = s.behind in
      let up : a + suc left * 2 ^ 63 ≤ top = r.ahead in
      let down : b + suc left * 2 ^ 63 ≤ top = r.behind in
      let value = more_value s.ahead m (fits (a + m) (omega arith)) in
      let room : a + m + left * 2 ^ 63 ≤ top = omega arith in
      let other : b + left * 2 ^ 63 ≤ top = omega arith in (
        ap (λ (x : ℕ). sub_ℕ x b) value ∙ ahead_more a b m,
        record { ahead = rw value room; behind = other },
      )
  with_one s (negsuc m) left h r =
      let a = s.ahead in
      let b = s.behind in
      let up : a + suc left * 2 ^ 63 ≤ top = r.ahead in
      let down : b + suc left * 2 ^ 63 ≤ top = r.behind in
      let value = more_value s.behind (suc m) (fits (b + suc m) (omega arith)) in
      let room : b + suc m + left * 2 ^ 63 ≤ top = omega arith in
      let other : a + left * 2 ^ 63 ≤ top = omega arith in (
        ap (sub_ℕ a) value ∙ behind_more a b m,
        record { ahead = other; behind = rw value room },
      )

  with_all :
      (s : Sum) (ds : List ℤ) → AllWithin64 ds → Room s (length ds) → sum_of (sum_with_all s ds) ≡ sum_of s +ℤ total ds
  with_all s [] h r = sym (+ℤ_idr (sum_of s))
  with_all s (d ∷ ds) h r =
      let one = with_one s d (length ds) h.0 r in
      with_all (sum_with s d) ds h.1 one.1
      ∙ ap (λ (z : ℤ). z +ℤ total ds) one.0
      ∙ +ℤ_assoc (sum_of s) d (total ds)

pub sum_exact : (ds : List ℤ) → AllWithin64 ds → length ds < 2 ^ 64 → sum_of (sum_with_all no_sum ds) ≡ total ds
sum_exact ds h few =
    let room : length ds * 2 ^ 63 ≤ 2 ^ 64 * 2 ^ 63 = mul-le-mul_right (2 ^ 63) (le_of_lt few) in
    let here : 0 + length ds * 2 ^ 63 ≤ 2 ^ 64 * 2 ^ 63 = rw (zero-add (length ds * 2 ^ 63)) room in
    with_all (2 ^ 64 * 2 ^ 63) (λ n k. lt_of_le_of_lt k (lit< tt)) no_sum ds h (record { ahead = here; behind = here })
    ∙ +ℤ_idl (total ds)

-- ---- `over`

abbrev OverExactly : Option Told → ℤ → Type 0
OverExactly told z = (told ≡ None → Within64 z → ⊥) × ((Within64 z → ⊥) → told ≡ None)

pub told_over : (z : ℤ) → OverExactly (told_of z) z
told_over (pos m) =
    either_told (λ (told : Option Told). OverExactly told (pos m)) (leb m _)
    (λ e. (
      λ over h. let no : ◌≡◌ {A = ℕ} 0 1 = cc in omega arith,
      λ out. absurd (out (omega (arith, leb-true m _ e))),
    ))
    (λ e. (λ over h. omega (arith, h, leb-false m _ e), λ out. refl))
told_over (negsuc m) =
    either_told (λ (told : Option Told). OverExactly told (negsuc m)) (leb (suc m) _)
    (λ e. (
      λ over h. let no : ◌≡◌ {A = ℕ} 0 1 = cc in omega arith,
      λ out. absurd (out (omega (arith, leb-true (suc m) _ e))),
    ))
    (λ e. (λ over h. omega (arith, h, leb-false (suc m) _ e), λ out. refl))
