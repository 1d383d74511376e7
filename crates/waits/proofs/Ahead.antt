-- What stands ahead of a place on the walk of a round, by any count f of a place, for any number of places and any
-- test of due. No contract cites this file.
--   ahead_same     it is decided by the count of each place
--   ahead_fewer    it is less than the count of all places, if the place itself counts
--   ahead_longer   a longer walk that comes to the place has no more ahead of it
--   passed_over    a round that passes a due place over serves s others ahead of it, and the next round starts behind
--                  them: so much less is ahead
-- Assumes nothing.
use Prim.Native.Nat.{ℕ, zero, suc, ◌+◌, ◌≤◌, ◌<◌}
use mathlib.Core.Path.{◌≡◌, refl, sym, ap, ◌∙◌}
use mathlib.Core.Bool.{Bool, true, false, cond, true≢false}
use mathlib.Core.List.{List, [], ◌∷◌}
use native.Mathlib.Omega.{arith}
use lib.Dec.{eqb}
use lib.ListN.{take}
use borrow.Author.Tests.{eqb-true, eqb-false}
use Rattle.round.specs.Turn.{next_place}
use Rattle.round.specs.FirstDue.{walk, due_among, NotIn, next_behind}
use Rattle.round.proofs.Places.{sum_of}

-- ---- the count of the places that stand before x
abbrev pub ahead : (f : ℕ → ℕ) (x : ℕ) → List ℕ → ℕ
ahead f x [] = 0
ahead f x (p ∷ ps) = cond (eqb p x) 0 (f p + ahead f x ps)

pub ahead_same :
    (f g : ℕ → ℕ) (x : ℕ) → ((p : ℕ) → f p ≡ g p) → (ps : List ℕ) → ahead f x ps ≡ ahead g x ps
ahead_same f g x same [] = refl
ahead_same f g x same (p ∷ ps) = λ i. cond (eqb p x) 0 (same p i + ahead_same f g x same ps i)

-- ---- x stands among the places; behind another it stands among those that are left
abbrev pub Among : (x : ℕ) → List ℕ → Type 0
Among x ps = NotIn x ps → ⊥

later : (x p : ℕ) (ps : List ℕ) → eqb p x ≡ false → Among x (p ∷ ps) → Among x ps
later x p ps e there none = there (eqb-false p x e, none)

module _ (f : ℕ → ℕ) (x : ℕ) where
  fewer_if :
      (p : ℕ) (ps : List ℕ) (here : Bool) → eqb p x ≡ here → 1 ≤ f x → (Among x ps → ahead f x ps < sum_of f ps) →
      Among x (p ∷ ps) → cond here 0 (f p + ahead f x ps) < f p + sum_of f ps
  fewer_if p ps true e counts rest there = omega (arith, ap f (eqb-true p x e))
  fewer_if p ps false e counts rest there = omega (arith, rest (later x p ps e there))

  pub ahead_fewer : (ps : List ℕ) → 1 ≤ f x → Among x ps → ahead f x ps < sum_of f ps
  ahead_fewer [] counts there = absurd (there tt)
  ahead_fewer (p ∷ ps) counts there = fewer_if p ps (eqb p x) refl counts (ahead_fewer ps counts) there

  module _ (n : ℕ) where
    pub ahead_longer :
        (k m p : ℕ) → k ≤ m → Among x (walk n k p) → ahead f x (walk n m p) ≡ ahead f x (walk n k p)
    ahead_longer zero m p h there = absurd (there tt)
    ahead_longer (suc k) zero p h there = absurd (omega (arith, h))
    ahead_longer (suc k) (suc m) p h there =
        go (eqb p x) refl (λ more. ahead_longer k m (next_place n p) (omega (arith, h)) more)
      where
        go :
            (here : Bool) → eqb p x ≡ here →
            (Among x (walk n k (next_place n p)) →
            ahead f x (walk n m (next_place n p)) ≡ ahead f x (walk n k (next_place n p))) →
            cond here 0 (f p + ahead f x (walk n m (next_place n p)))
            ≡ cond here 0 (f p + ahead f x (walk n k (next_place n p)))
        go true e rest = refl
        go false e rest = ap (λ (a : ℕ). f p + a) (rest (later x p (walk n k (next_place n p)) e there))

    -- ---- a round that serves the first s due places, x not among them; each due place counts
    module _ (due : ℕ → Bool) (counts : (p : ℕ) → due p ≡ true → 1 ≤ f p) (is-due : due x ≡ true) where
      -- the turns from a walk's place on serve, and then so much less is ahead
      abbrev Passes : (ps served : List ℕ) (s next : ℕ) → Type 0
      Passes ps served s next =
          NotIn x served → ahead f x (walk n n (next_behind n served next)) + s ≤ ahead f x ps

      abbrev first_of : (s : ℕ) → List ℕ → List ℕ
      first_of s ps = take s (due_among due ps)

      module _ (k at : ℕ) (fits : suc k ≤ n) (there : Among x (walk n (suc k) at))
          (rest :
          Among x (walk n k (next_place n at)) → (l next : ℕ) →
          Passes (walk n k (next_place n at)) (first_of (suc l) (walk n k (next_place n at))) (suc l) next) where
        abbrev ws : List ℕ
        ws = walk n k (next_place n at)

        -- the place serves as the last of s, or others do after it
        serves :
            (l : ℕ) → due at ≡ true → eqb at x ≡ false → NotIn x (first_of l ws) →
            ahead f x (walk n n (next_behind n (first_of l ws) (next_place n at))) + suc l ≤ f at + ahead f x ws
        serves zero d e none =
            omega (arith, counts at d, ahead_longer k n (next_place n at) (omega arith) (later x at ws e there))
        serves (suc l) d e none =
            omega (arith, counts at d, rest (later x at ws e there) l (next_place n at) none)

        turn :
            (l next : ℕ) (here : Bool) → eqb at x ≡ here → (b : Bool) → due at ≡ b →
            NotIn x (take (suc l) (cond b (at ∷ due_among due ws) (due_among due ws))) →
            ahead f x (walk n n (next_behind n (take (suc l) (cond b (at ∷ due_among due ws) (due_among due ws))) next))
            + suc l
            ≤ cond here 0 (f at + ahead f x ws)
        turn l next true e true d none = absurd (none.0 (eqb-true at x e))
        turn l next true e false d none =
            absurd (true≢false (sym is-due ∙ ap due (sym (eqb-true at x e)) ∙ d))
        turn l next false e true d none = serves l d e none.1
        turn l next false e false d none = omega (arith, rest (later x at ws e there) l next none)

      passes :
          (k at : ℕ) → k ≤ n → Among x (walk n k at) → (l next : ℕ) →
          Passes (walk n k at) (first_of (suc l) (walk n k at)) (suc l) next
      passes zero at h there l next = absurd (there tt)
      passes (suc k) at h there l next =
          turn k at h there (λ more. passes k (next_place n at) (omega (arith, h)) more) l next (eqb at x) refl (due at)
          refl

      pub passed_over :
          (s at next : ℕ) → 1 ≤ s → Among x (walk n n at) → NotIn x (take s (due_among due (walk n n at))) →
          ahead f x (walk n n (next_behind n (take s (due_among due (walk n n at))) next)) + s
          ≤ ahead f x (walk n n at)
      passed_over zero at next h there none = absurd (omega arith)
      passed_over (suc l) at next h there none = passes n at (omega arith) there l next none
