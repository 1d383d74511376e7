-- The least and the greatest of D. No contract cites this file.
--   least_of, greatest_of   a spread of D has the least of them and the greatest
--   none_of                 and is none exactly where there is no D
-- The two differ in which of two numbers they pick (`Picks`). Assumes nothing.
use Prim.Native.Nat.{ℕ}
use mathlib.Core.Path.{◌≡◌, refl, sym, ap, subst, ◌∙◌}
use mathlib.Core.Logic.{◌⊎◌, inl, inr, ⊎_elim}
use mathlib.Core.Bool.{Bool, true, false, cond, not}
use mathlib.Core.List.{List, [], ◌∷◌}
use native.Mathlib.Nat.{le_of_lt}
use native.Mathlib.Omega.{arith}
use lib.Dec.{T, ltb→lt, le→leb}
use lib.IntN.{ℤ, pos, negsuc}
use lib.Signed.{lt_z, le_z, ◌≤ℤ◌, ◌<ℤ◌, le_z_yes, lt_z_yes, lt_z_no, ≤ℤ_refl, <ℤ-≤ℤ_trans, clash_ℤ}
use Rattle.std.specs.Prelude.{Some, None}
use Rattle.promise.proofs.Tests.{either_told}
use Rattle.sheet_tally.specs.declared.spread.Spread.{Spread}
use Rattle.sheet_tally.specs.Spread.{lesser, greater}
use Rattle.sheet_laws.specs.Heard.{IsIn, IsLeast, IsGreatest}
use Rattle.sheet_laws.proofs.Tally.{spread_all}

-- ---- the order of numbers with a sign

below : (a b : ℤ) → T (lt_z a b) → T (le_z a b)
below (pos a) (pos b) h = le→leb a b (le_of_lt (ltb→lt a b h))
below (pos a) (negsuc b) h = h
below (negsuc a) (pos b) h = h
below (negsuc a) (negsuc b) h = le→leb b a (le_of_lt (ltb→lt b a h))

less : (a b : ℤ) → lt_z a b ≡ true → a <ℤ b
less a b e = lt_z_yes (subst T (sym e) tt)

not_less : (a b : ℤ) → lt_z a b ≡ false → b ≤ℤ a
not_less a b e = lt_z_no (subst (λ (t : Bool). T (not t)) (sym e) tt)

less_le : (a b : ℤ) → lt_z a b ≡ true → a ≤ℤ b
less_le a b e = le_z_yes (below a b (subst T (sym e) tt))

either_way : (a b : ℤ) → (a <ℤ b) ⊎ (b ≤ℤ a)
either_way a b = go (lt_z a b) refl
  where
    go : (t : Bool) → lt_z a b ≡ t → (a <ℤ b) ⊎ (b ≤ℤ a)
    go true e = inl (less a b e)
    go false e = inr (not_less a b e)

≤ℤ_trans : (a b c : ℤ) → a ≤ℤ b → b ≤ℤ c → a ≤ℤ c
≤ℤ_trans a b c h k = ⊎_elim (λ less. clash_ℤ (<ℤ-≤ℤ_trans less h) k) (λ le. le) (either_way c a)

-- ---- one number picked of two, which is not beyond either

pub record Picks (pick : ℤ → ℤ → ℤ) (before : ℤ → ℤ → Type 0) : Type 0 where
  pub same : (a : ℤ) → before a a
  pub trans : (a b c : ℤ) → before a b → before b c → before a c
  pub one : (a b : ℤ) → (pick a b ≡ a) ⊎ (pick a b ≡ b)
  pub first : (a b : ℤ) → before (pick a b) a
  pub second : (a b : ℤ) → before (pick a b) b

abbrev picked : (ℤ → ℤ → ℤ) → ℤ → List ℤ → ℤ
picked pick z [] = z
picked pick z (d ∷ rest) = picked pick (pick d z) rest

picked_in :
    {before : ℤ → ℤ → Type 0} (pick : ℤ → ℤ → ℤ) → Picks pick before → (z : ℤ) (ds : List ℤ) →
    IsIn (picked pick z ds) (z ∷ ds)
picked_in pick p z [] = inl refl
picked_in pick p z (d ∷ rest) =
    ⊎_elim
    (λ e. ⊎_elim (λ is. inr (inl (e ∙ is))) (λ is. inl (e ∙ is)) (p.one d z))
    (λ there. inr (inr there))
    (picked_in pick p (pick d z) rest)

picked_first :
    {before : ℤ → ℤ → Type 0} (pick : ℤ → ℤ → ℤ) → Picks pick before → (z : ℤ) (ds : List ℤ) (x : ℤ) →
    IsIn x (z ∷ ds) → before (picked pick z ds) x
picked_first {before} pick p z [] x (inl e) = subst (before z) (sym e) (p.same z)
picked_first {before} pick p z [] x (inr never) = absurd never
picked_first {before} pick p z (d ∷ rest) x (inl e) =
    p.trans (picked pick (pick d z) rest) (pick d z) x (picked_first pick p (pick d z) rest (pick d z) (inl refl))
    (subst (before (pick d z)) (sym e) (p.second d z))
picked_first {before} pick p z (d ∷ rest) x (inr (inl e)) =
    p.trans (picked pick (pick d z) rest) (pick d z) x (picked_first pick p (pick d z) rest (pick d z) (inl refl))
    (subst (before (pick d z)) (sym e) (p.first d z))
picked_first {before} pick p z (d ∷ rest) x (inr (inr there)) = picked_first pick p (pick d z) rest x (inr there)

-- ---- the lesser and the greater of two

either_of : (b : Bool) (x y : ℤ) → (cond b x y ≡ x) ⊎ (cond b x y ≡ y)
either_of true x y = inl refl
either_of false x y = inr refl

lesser_picks : Picks lesser (λ a b. a ≤ℤ b)
lesser_picks =
    record {
      same = ≤ℤ_refl;
      trans = ≤ℤ_trans;
      one = λ a b. either_of (lt_z a b) a b;
      first = λ a b. either_told (λ (z : ℤ). z ≤ℤ a) (lt_z a b) (λ e. ≤ℤ_refl a) (not_less a b);
      second = λ a b. either_told (λ (z : ℤ). z ≤ℤ b) (lt_z a b) (less_le a b) (λ e. ≤ℤ_refl b);
    }

greater_picks : Picks greater (λ a b. b ≤ℤ a)
greater_picks =
    record {
      same = ≤ℤ_refl;
      trans = λ a b c h k. ≤ℤ_trans c b a k h;
      one = λ a b. either_of (lt_z b a) a b;
      first = λ a b. either_told (λ (z : ℤ). a ≤ℤ z) (lt_z b a) (λ e. ≤ℤ_refl a) (not_less b a);
      second = λ a b. either_told (λ (z : ℤ). b ≤ℤ z) (lt_z b a) (less_le b a) (λ e. ≤ℤ_refl b);
    }

-- ---- a spread has both

spread_from :
    (least greatest : ℤ) (ds : List ℤ) →
    spread_all (Some (record { least = least; greatest = greatest })) ds ≡
    Some (record { least = picked lesser least ds; greatest = picked greater greatest ds })
spread_from least greatest [] = refl
spread_from least greatest (d ∷ rest) = spread_from (lesser d least) (greater d greatest) rest

pub none_of : (ds : List ℤ) → (spread_all None ds ≡ None → ds ≡ []) × (ds ≡ [] → spread_all None ds ≡ None)
none_of [] = (λ e. refl, λ e. refl)
none_of (d ∷ rest) = (
  λ e. let told = sym (spread_from d d rest) ∙ e in cc,
  λ e. cc,
)

pub least_of : (ds : List ℤ) (least greatest : ℤ) → spread_all None ds ≡ Some (record { least = least; greatest = greatest }) → IsLeast least ds
least_of [] least greatest e = let never : ◌≡◌ {A = ℕ} 0 1 = cc in absurd (omega arith)
least_of (d ∷ rest) least greatest e =
    let told = sym (spread_from d d rest) ∙ e in
    let same : ◌≡◌ {A = Spread} (record { least = picked lesser d rest; greatest = picked greater d rest })
    (record { least = least; greatest = greatest }) = cc in
    let is : picked lesser d rest ≡ least = ap (λ (s : Spread). s.least) same in
    subst (λ (z : ℤ). IsLeast z (d ∷ rest)) is
    (record { stands_in = picked_in lesser lesser_picks d rest; least = picked_first lesser lesser_picks d rest })

pub greatest_of : (ds : List ℤ) (least greatest : ℤ) → spread_all None ds ≡ Some (record { least = least; greatest = greatest }) → IsGreatest greatest ds
greatest_of [] least greatest e = let never : ◌≡◌ {A = ℕ} 0 1 = cc in absurd (omega arith)
greatest_of (d ∷ rest) least greatest e =
    let told = sym (spread_from d d rest) ∙ e in
    let same : ◌≡◌ {A = Spread} (record { least = picked lesser d rest; greatest = picked greater d rest })
    (record { least = least; greatest = greatest }) = cc in
    let is : picked greater d rest ≡ greatest = ap (λ (s : Spread). s.greatest) same in
    subst (λ (z : ℤ). IsGreatest z (d ∷ rest)) is
    (record { stands_in = picked_in greater greater_picks d rest; greatest = picked_first greater greater_picks d rest })
