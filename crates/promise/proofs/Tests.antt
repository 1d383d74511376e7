-- Laws of tests, which proofs share. No contract cites this file.
--   either        what holds of both branches of a test holds of what the test picks
--   either_told   so does what holds of each branch where the test says so
--   both          two tests that hold together hold each
--   neither       two tests of which none holds each do not
--   refuted       a test that cannot hold says no
-- Assumes nothing.
use mathlib.Core.Path.{◌≡◌, refl}
use mathlib.Core.Bool.{Bool, true, false, cond, ◌&&◌, ◌||◌}

pub either : {A : Type 0} (P : A → Type 0) (b : Bool) {x y : A} → P x → P y → P (cond b x y)
either P true p q = p
either P false p q = q

pub either_told :
    {A : Type 0} (P : A → Type 0) (b : Bool) {x y : A} → (b ≡ true → P x) → (b ≡ false → P y) → P (cond b x y)
either_told P true p q = p refl
either_told P false p q = q refl

pub both : (a b : Bool) → (a && b) ≡ true → (a ≡ true) × (b ≡ true)
both true b e = (refl, e)
both false b e = (e, cc)

pub neither : (a b : Bool) → (a || b) ≡ false → (a ≡ false) × (b ≡ false)
neither true b e = (e, cc)
neither false b e = (refl, e)

pub refuted : (b : Bool) → (b ≡ true → ⊥) → false ≡ b
refuted true never = absurd (never refl)
refuted false never = refl
