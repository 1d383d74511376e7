-- Laws of some places, for any test of a place. No contract cites this file.
--   each_by, each_with, each_due, each_take   what holds of each place gives what follows, of fewer places too
--   apart_due, apart_take                     fewer of places that are apart are apart
--   due_true     what `due_among` leaves is due
--   due_sum      how many it leaves
--   due_lacks    it leaves out no place that is due
--   first_full   the first k of them leave out one that is there only where they are k
--   same_due     two tests that agree at each place leave the same
--   same_said    so does what is said there
--   said_count   where each place says one thing, as many are said as there are places
--   among        a place is one of some, or is none of them
-- Assumes nothing.
use Prim.Native.Nat.{ℕ, zero, suc, ◌+◌}
use mathlib.Core.Path.{◌≡◌, refl, sym, ap, ◌∙◌, subst}
use mathlib.Core.Logic.{◌≢◌}
use mathlib.Core.Bool.{Bool, true, false, cond, true≢false}
use mathlib.Core.List.{List, [], ◌∷◌, ◌++◌, flat_map}
use native.Mathlib.Omega.{arith}
use lib.Dec.{leb, eqb}
use lib.ListN.{length, take, length-append}
use lib.Seq.{length-take-le, take_all}
use borrow.Author.Tests.{leb-true, leb-false, eqb-true, eqb-false}
use Rattle.promise.proofs.Tests.{either}
use Rattle.round.specs.FirstDue.{due_among, Each, NotIn, AllApart}

-- ---- a count f over some places
abbrev pub sum_of : (f : ℕ → ℕ) → List ℕ → ℕ
sum_of f [] = 0
sum_of f (p ∷ ps) = f p + sum_of f ps

-- ---- what holds of each place

module _ {P Q : ℕ → Type 0} (f : (p : ℕ) → P p → Q p) where
  pub each_by : (ps : List ℕ) → Each P ps → Each Q ps
  each_by [] h = tt
  each_by (p ∷ ps) h = (f p h.0, each_by ps h.1)

module _ {P Q R : ℕ → Type 0} (f : (p : ℕ) → P p → Q p → R p) where
  pub each_with : (ps : List ℕ) → Each P ps → Each Q ps → Each R ps
  each_with [] g h = tt
  each_with (p ∷ ps) g h = (f p g.0 h.0, each_with ps g.1 h.1)

module _ (P : ℕ → Type 0) where
  pub each_due : (due : ℕ → Bool) (ps : List ℕ) → Each P ps → Each P (due_among due ps)
  each_due due [] h = tt
  each_due due (p ∷ ps) h = either (Each P) (due p) (h.0, each_due due ps h.1) (each_due due ps h.1)

  pub each_take : (k : ℕ) (ps : List ℕ) → Each P ps → Each P (take k ps)
  each_take zero ps h = tt
  each_take (suc k) [] h = tt
  each_take (suc k) (p ∷ ps) h = (h.0, each_take k ps h.1)

-- ---- fewer places

pub apart_due : (due : ℕ → Bool) (ps : List ℕ) → AllApart ps → AllApart (due_among due ps)
apart_due due [] h = tt
apart_due due (p ∷ ps) h =
    either AllApart (due p) (each_due (λ (q : ℕ). q ≢ p) due ps h.0, apart_due due ps h.1)
    (apart_due due ps h.1)

pub apart_take : (k : ℕ) (ps : List ℕ) → AllApart ps → AllApart (take k ps)
apart_take zero ps h = tt
apart_take (suc k) [] h = tt
apart_take (suc k) (p ∷ ps) h = (each_take (λ (q : ℕ). q ≢ p) k ps h.0, apart_take k ps h.1)

module _ (due : ℕ → Bool) where
  abbrev Due : List ℕ → Type 0
  Due = Each (λ (p : ℕ). due p ≡ true)

  due_if : (p : ℕ) (ps : List ℕ) (b : Bool) → due p ≡ b → Due ps → Due (cond b (p ∷ ps) ps)
  due_if p ps true e h = (e, h)
  due_if p ps false e h = h

  sum_if :
      (b : Bool) (p : ℕ) (ps : List ℕ) {n : ℕ} → length ps ≡ n → length (cond b (p ∷ ps) ps) ≡ cond b 1 0 + n
  sum_if true p ps e = omega (arith, e)
  sum_if false p ps e = omega (arith, e)

  pub due_true : (ps : List ℕ) → Due (due_among due ps)
  due_true [] = tt
  due_true (p ∷ ps) = due_if p (due_among due ps) (due p) refl (due_true ps)

  pub due_sum : (ps : List ℕ) → length (due_among due ps) ≡ sum_of (λ (p : ℕ). cond (due p) 1 0) ps
  due_sum [] = refl
  due_sum (p ∷ ps) = sum_if (due p) p (due_among due ps) (due_sum ps)

  -- a place that is due is left out by none but a list where it does not stand
  module _ (x : ℕ) (d : due x ≡ true) where
    lacks_if :
        (p : ℕ) (ps rest : List ℕ) (b : Bool) → due p ≡ b → (NotIn x rest → NotIn x ps) →
        NotIn x (cond b (p ∷ rest) rest) → NotIn x (p ∷ ps)
    lacks_if p ps rest true e on h = (h.0, on h.1)
    lacks_if p ps rest false e on h = (λ same. true≢false (sym d ∙ ap due (sym same) ∙ e), on h)

    pub due_lacks : (ps : List ℕ) → NotIn x (due_among due ps) → NotIn x ps
    due_lacks [] h = tt
    due_lacks (p ∷ ps) h = lacks_if p ps (due_among due ps) (due p) refl (due_lacks ps) h

    full_if :
        (k : ℕ) (ps l : List ℕ) (all : Bool) → leb (length l) k ≡ all → (NotIn x l → NotIn x ps) →
        (NotIn x ps → ⊥) → NotIn x (take k l) → length (take k l) ≡ k
    full_if k ps l false e on there h = length-take-le k l (omega (arith, leb-false (length l) k e))
    full_if k ps l true e on there h =
        absurd (there (on (subst (NotIn x) (take_all k l (leb-true (length l) k e)) h)))

    pub first_full :
        (k : ℕ) (ps : List ℕ) → (NotIn x ps → ⊥) → NotIn x (take k (due_among due ps)) →
        length (take k (due_among due ps)) ≡ k
    first_full k ps = full_if k ps (due_among due ps) (leb (length (due_among due ps)) k) refl (due_lacks ps)

-- ---- what is asked of each place alone decides

pub same_due :
    (f g : ℕ → Bool) (ps : List ℕ) → Each (λ (p : ℕ). f p ≡ g p) ps → due_among f ps ≡ due_among g ps
same_due f g [] h = refl
same_due f g (p ∷ ps) h =
    let rest = same_due f g ps h.1 in λ i. cond (h.0 i) (p ∷ rest i) (rest i)

pub same_said :
    {B : Type 0} (f g : ℕ → List B) (ps : List ℕ) → Each (λ (p : ℕ). f p ≡ g p) ps → flat_map f ps ≡ flat_map g ps
unfolding flat_map
same_said f g [] h = refl
same_said f g (p ∷ ps) h = λ i. h.0 i ++ same_said f g ps h.1 i

pub said_count :
    {B : Type 0} (f : ℕ → List B) (ps : List ℕ) → Each (λ (p : ℕ). length (f p) ≡ 1) ps →
    length (flat_map f ps) ≡ length ps
unfolding flat_map
said_count f [] h = refl
said_count f (p ∷ ps) h = omega (arith, length-append (f p) (flat_map f ps), h.0, said_count f ps h.1)

-- ---- one of some places, or none of them
module _ (P : ℕ → Type 0) (C : Type 0) (x : ℕ) (one : P x → C) where
  among_if :
      (p : ℕ) (ps : List ℕ) (here : Bool) → eqb p x ≡ here → P p → (NotIn x (p ∷ ps) → C) →
      ((NotIn x ps → C) → C) → C
  among_if p ps true e h none rest = one (subst P (eqb-true p x e) h)
  among_if p ps false e h none rest = rest (λ others. none (eqb-false p x e, others))

  pub among : (ps : List ℕ) → Each P ps → (NotIn x ps → C) → C
  among [] h none = none tt
  among (p ∷ ps) h none = among_if p ps (eqb p x) refl h.0 none (among ps h.1)
