-- Laws of the places of a round, for any number n of them. No contract cites this file.
--   next_by      the place after p is p + 1, or 0 after the last
--   walk_below   each place of a walk is one of the n
--   walk_apart   a walk of at most n turns comes to no place twice
--   walk_all     a walk of n turns comes to every place
--   walk_sum     what is counted on it is counted over the places
-- Assumes nothing.
use Prim.Native.Nat.{ℕ, zero, suc, ◌+◌, ◌-◌, ◌%◌, ◌≤◌, ◌<◌}
use mathlib.Core.Path.{◌≡◌, refl, sym, ap, ◌∙◌, subst}
use mathlib.Core.Logic.{◌≢◌}
use mathlib.Core.Bool.{Bool, true, false}
use native.Mathlib.Nat.{add-zero, mod-lt, mod-eq_of_lt, mod_self}
use native.Mathlib.Numerals.{add-one}
use native.Mathlib.Omega.{arith}
use lib.Dec.{ltb, leb, eqb}
use borrow.Author.Tests.{ltb-true, ltb-false, leb-true, leb-false, eqb-true, eqb-false}
use Rattle.round.specs.Turn.{next_place}
use Rattle.round.specs.FirstDue.{walk, Each, NotIn, AllApart}
use Rattle.round.proofs.Places.{sum_of}

-- ---- the next place

next_if :
    (P : ℕ → Type 0) (n p : ℕ) (b : Bool) → ltb (p + 1) n ≡ b → p < n → (p + 1 < n → P (p + 1)) →
    (p + 1 ≡ n → P 0) → P (next_place n p)
next_if P n p true e h on round =
    let more = ltb-true (p + 1) n e in subst P (sym (mod-eq_of_lt more)) (on more)
next_if P n p false e h on round =
    let last : p + 1 ≡ n = omega (arith, ltb-false (p + 1) n e) in
    subst P (sym (ap (λ (x : ℕ). x % n) last ∙ mod_self n)) (round last)

pub next_by :
    (P : ℕ → Type 0) (n p : ℕ) → p < n → (p + 1 < n → P (p + 1)) → (p + 1 ≡ n → P 0) → P (next_place n p)
next_by P n p = next_if P n p (ltb (p + 1) n) refl

next_below : (n p : ℕ) → p < n → next_place n p < n
next_below n p h = mod-lt (p + 1) (omega arith)

-- ---- a count f over the places below n
abbrev pub sum_below : (f : ℕ → ℕ) → (n : ℕ) → ℕ
sum_below f zero = 0
sum_below f (suc p) = sum_below f p + f p

-- ---- a walk
module _ (n : ℕ) where
  pub walk_below : (k p : ℕ) → p < n → Each (λ (q : ℕ). q < n) (walk n k p)
  walk_below zero p h = tt
  walk_below (suc k) p h = (h, walk_below k (next_place n p) (next_below n p h))

  -- it does not come to x from below, nor from above and round
  module _ (x : ℕ) where
    abbrev Misses : (k p : ℕ) → Type 0
    Misses k p = NotIn x (walk n k p)

    from_below : (k p : ℕ) → x < n → p + k ≤ x → Misses k p
    from_below zero p b h = tt
    from_below (suc k) p b h = (
      λ e. omega arith,
      next_by (Misses k) n p (omega arith) (λ m. from_below k (p + 1) b (omega arith)) (λ m. absurd (omega arith)),
    )

    from_above : (k p : ℕ) → x < p → p < n → p + k ≤ x + n → Misses k p
    from_above zero p l b h = tt
    from_above (suc k) p l b h = (
      λ e. omega arith,
      next_by (Misses k) n p b
          (λ m. from_above k (p + 1) (omega arith) m (omega arith))
          (λ m. from_below k 0 (omega arith) (omega arith)),
    )

  pub walk_apart : (k p : ℕ) → k ≤ n → p < n → AllApart (walk n k p)
  walk_apart zero p h b = tt
  walk_apart (suc k) p h b = (
    next_by (Misses p k) n p b
        (λ m. from_above p k (p + 1) (omega arith) m (omega arith))
        (λ m. from_below p k 0 b (omega arith)),
    walk_apart k (next_place n p) (omega arith) (next_below n p b),
  )

  -- what holds of each place of a walk holds of a place x that is ahead, or ahead after the last
  module _ (P : ℕ → Type 0) (x : ℕ) (b : x < n) where
    abbrev Comes : (k p : ℕ) → Type 0
    Comes k p = Each P (walk n k p) → P x

    ahead_if : (here : Bool) (k p : ℕ) → eqb p x ≡ here → p ≤ x → (p < x → Comes k (p + 1)) → Comes (suc k) p
    ahead_if true k p c l on e = subst P (eqb-true p x c) e.0
    ahead_if false k p c l on e =
        let other : p ≢ x = eqb-false p x c in
        let more : p < x = omega arith in
        next_by (Comes k) n p (omega arith) (λ m. on more) (λ m. absurd (omega arith)) e.1

    ahead : (k p : ℕ) → p ≤ x → x < p + k → Comes k p
    ahead zero p l h = λ e. absurd (omega arith)
    ahead (suc k) p l h = ahead_if (eqb p x) k p refl l (λ m. ahead k (p + 1) (omega arith) (omega arith))

    behind : (k p : ℕ) → x < p → p < n → x + n < p + k → Comes k p
    behind zero p l a h = λ e. absurd (omega arith)
    behind (suc k) p l a h = λ e.
        next_by (Comes k) n p a
        (λ m. behind k (p + 1) (omega arith) m (omega arith))
        (λ m. ahead k 0 (omega arith) (omega arith)) e.1

    all_if : (at : ℕ) (past : Bool) → leb at x ≡ past → at < n → Comes n at
    all_if at true c a = ahead n at (leb-true at x c) (omega (arith, leb-true at x c))
    all_if at false c a = behind n at (leb-false at x c) a (omega (arith, leb-false at x c))

    pub walk_all : (at : ℕ) → at < n → Each P (walk n n at) → P x
    walk_all at = all_if at (leb at x) refl

  -- up to the last place a walk counts those from p on, and round it those before p too
  module _ (f : ℕ → ℕ) where
    on : (p : ℕ) → sum_below f (p + 1) ≡ sum_below f p + f p
    on p = ap (sum_below f) (add-one p)

    sum_up : (k p : ℕ) → p + k ≤ n → sum_below f p + sum_of f (walk n k p) ≡ sum_below f (p + k)
    sum_up zero p h = omega (arith, ap (sum_below f) (add-zero p))
    sum_up (suc k) p h =
        let all = sum_below f (p + suc k) in
        next_by (λ (q : ℕ). sum_below f p + (f p + sum_of f (walk n k q)) ≡ all) n p (omega arith)
        (λ m. let same : p + 1 + k ≡ p + suc k = omega arith in
        omega (arith, on p, sum_up k (p + 1) (omega arith), ap (sum_below f) same))
        (λ m. let same : p + 1 ≡ p + suc k = omega arith in
        let ended : 0 + k ≡ 0 = omega arith in
        omega (arith, on p, sum_up k 0 (omega arith), ap (sum_below f) ended, ap (sum_below f) same))

    sum_round :
        (k p : ℕ) → p < n → n ≤ p + k → p + k ≤ n + n →
        sum_below f p + sum_of f (walk n k p) ≡ sum_below f n + sum_below f (p + k - n)
    sum_round zero p b h l = absurd (omega arith)
    sum_round (suc k) p b h l =
        let all = sum_below f n + sum_below f (p + suc k - n) in
        next_by (λ (q : ℕ). sum_below f p + (f p + sum_of f (walk n k q)) ≡ all) n p b
        (λ m. let same : p + 1 + k - n ≡ p + suc k - n = omega arith in
        omega (arith, on p, sum_round k (p + 1) m (omega arith) (omega arith), ap (sum_below f) same))
        (λ m. let same : 0 + k ≡ p + suc k - n = omega arith in
        omega (arith, on p, sum_up k 0 (omega arith), ap (sum_below f) m, ap (sum_below f) same))

    pub walk_sum : (at : ℕ) → at < n → sum_of f (walk n n at) ≡ sum_below f n
    walk_sum at b =
        let back : at + n - n ≡ at = omega arith in
        omega (arith, sum_round n at b (omega arith) (omega arith), ap (sum_below f) back)
