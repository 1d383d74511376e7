-- What follows from a row of sendings. No contract cites this file.
--   sync_bytes, fup_bytes   byte 0 says the kind, byte 2 the counter
--   aged                    it stands some SYNCs before the newest, at least as many periods
--   apart                   two with one counter are one, or sixteen periods apart
--   each_known              each frame of a row is a SYNC, or a FUP next to the SYNC that it confirms
--   fup_here                a FUP next to a frame confirms that one
--   row_before              what was sent before is a row too
--   whole_time              the seconds of a SYNC and its FUP's OVS and nanoseconds are the whole time
--   sync_read, fup_read     the frames are read as the values sent
--   never_rise              nothing in a row was sent after what follows it
-- Assumes nothing.
use Rattle.std.specs.Prelude.{Ok}
use Prim.Native.Nat.{ℕ, suc, ◌+◌, ◌-◌, ◌*◌, ◌%◌, ◌≤◌, ◌<◌}
use mathlib.Core.Path.{◌≡◌, refl, sym, ap, ◌∙◌, subst}
use mathlib.Core.Bool.{Bool, true, false, ◌||◌, true≢false}
use mathlib.Core.Logic.{◌⊎◌, inl, inr, ⊎_elim}
use mathlib.Core.List.{List, [], ◌∷◌, ◌++◌}
use native.Mathlib.Omega.{arith}
use native.Mathlib.Nat.{mul-le-mul_right}
use borrow.Author.Tests.{eqb-true, eqb-false}
use lib.Dec.{eqb}
use lib.ListN.{get_or}
use Rattle.settings.specs.Node.{places}
use Rattle.frame.specs.declared.values.Protection.{Protection}
use Rattle.frame.specs.declared.values.Protection.TheVariants.{Plain, Secured}
use Rattle.frame.specs.declared.values.Frame.TheVariants.{Sync as sync, Fup as fup}
use Rattle.clock.specs.declared.reading.VirtualLocalTime.{VirtualLocalTime}
use Rattle.clock.specs.declared.time.GlobalTime.{GlobalTime}
use Rattle.clock.specs.Reading.{span_of}
use Rattle.clock.specs.Time.{advanced}
use Rattle.frame.specs.ByteTwo.{byte_two_of}
use Rattle.frame_read.specs.Read.{read_of}
use Rattle.frame_write.specs.Write.{framed_of}
use Rattle.frame_laws.proofs.Laws.{read_back}
use Rattle.settings.specs.declared.domain_settings.DomainSettings.{DomainSettings}
use Rattle.master_rules.specs.Sent.{protection_of}
use Rattle.master_follow.specs.Follow.{whole_of, ovs_of}
use Rattle.history.specs.History.{Sent, In, is_fup, is_sync}
use Rattle.history.proofs.Row.{
  sync_values,
  fup_values,
  SyncSent,
  FupSent,
  Newest,
  no_sync,
  newest,
  After,
  Row,
  none,
  then_sync,
  then_fup,
}

-- ---- bytes 0 and 2

abbrev pub of_sync : List ℕ → Bool
of_sync bytes = eqb (get_or bytes 0 0) 0x10 || eqb (get_or bytes 0 0) 0x20

abbrev of_fup : List ℕ → Bool
of_fup bytes = eqb (get_or bytes 0 0) 0x18 || eqb (get_or bytes 0 0) 0x28

pub record Bytes (mine other : List ℕ → Bool) (counter : ℕ) (bytes : List ℕ) : Type 0 where
  pub is : mine bytes ≡ true
  pub is_not : other bytes ≡ false
  pub counter_in_lem : get_or bytes 2 0 % 16 ≡ counter % 16

sync_framed :
    (p : Protection) (i c three word id : ℕ) →
    Bytes of_sync of_fup c (framed_of 0x10 0x20 p (byte_two_of i c) three word id)
sync_framed (Plain user) i c three word id = record { is = refl; is_not = refl; counter_in_lem = omega arith }
sync_framed Secured i c three word id = record { is = refl; is_not = refl; counter_in_lem = omega arith }

fup_framed :
    (p : Protection) (i c three word id : ℕ) →
    Bytes of_fup of_sync c (framed_of 0x18 0x28 p (byte_two_of i c) three word id)
fup_framed (Plain user) i c three word id = record { is = refl; is_not = refl; counter_in_lem = omega arith }
fup_framed Secured i c three word id = record { is = refl; is_not = refl; counter_in_lem = omega arith }

-- ---- the seconds sent and OVS are the whole seconds at the confirmation
pub whole_time :
    (g : GlobalTime) (at t : VirtualLocalTime) → g.0 ≤ 4294967295 →
    ◌≡◌ {A = GlobalTime} (record { 0 = g.0 + ovs_of g at t; 1 = (whole_of g at t).1 }) (advanced g (span_of at t))
whole_time g at t h =
    let whole : g.0 + ((whole_of g at t).0 - g.0) ≡ (whole_of g at t).0 = omega (arith, h) in
    ap (λ (s : ℕ). record { 0 = s; 1 = (whole_of g at t).1 }) whole

module _ (m : DomainSettings) (i : ℕ) where
  pub sync_bytes : (c : ℕ) (y : Sent) → SyncSent m i c y → Bytes of_sync of_fup c y.bytes
  sync_bytes c y s =
      subst (Bytes of_sync of_fup c) (sym s.bytes) (sync_framed (protection_of m.security m.user.1) i c _ _ _)

  pub fup_bytes : (c : ℕ) (y f : Sent) → FupSent m i c y f → Bytes of_fup of_sync c f.bytes
  fup_bytes c y f s =
      subst (Bytes of_fup of_sync c) (sym s.bytes) (fup_framed (protection_of m.security m.user.2) i c _ _ _)

  -- a frame is not both
  no_both : (b : Bool) {P : Type 0} → b ≡ true → b ≡ false → P
  no_both b e f = absurd (true≢false (sym e ∙ f))

  pub fup_no_sync : (c c' : ℕ) (y f : Sent) {P : Type 0} → FupSent m i c y f → SyncSent m i c' f → P
  fup_no_sync c c' y f s s' = no_both (is_sync f) (sync_bytes c' f s').is (fup_bytes c y f s).is_not

  pub one_counter : (c c' : ℕ) (y : Sent) → SyncSent m i c y → SyncSent m i c' y → c ≡ c'
  one_counter c c' y s s' =
      omega (arith, s.small, s'.small, (sync_bytes c y s).counter_in_lem, (sync_bytes c' y s').counter_in_lem)

  -- ---- the SYNCs of a row

  pub record Known (y : Sent) : Type 0 where
    pub counter : ℕ
    pub sent : SyncSent m i counter y

  -- y, with counter c', stands d SYNCs before x, with counter c
  pub record Aged (c c' : ℕ) (x y : Sent) : Type 0 where
    pub d : ℕ
    pub count : (c' + d) % 16 ≡ c
    pub back : y.at.0 + d * m.period ≤ x.at.0
    pub same : d ≡ 0 → y ≡ x

  abbrev pub AgedTo : Newest → (c' : ℕ) → Sent → Type 0
  AgedTo no_sync c' y = ⊥
  AgedTo (newest c x) c' y = Aged c c' x y

  older_still :
      (s : Newest) (c c' : ℕ) (x y : Sent) → After m s c x → AgedTo s c' y → Aged c c' x y
  older_still no_sync c c' x y a g = absurd g
  older_still (newest c₀ x₀) c c' x y a g =
      record {
        d = suc g.d;
        count = omega (arith, g.count, a.0);
        back = omega (arith, g.back, a.1);
        same = λ e. absurd (omega arith);
      }

  pub aged :
      (s : Newest) (l : List Sent) → Row m i s l → (c' : ℕ) (y : Sent) → In y l → SyncSent m i c' y → AgedTo s c' y
  aged s l none c' y p sy = absurd p
  aged s l (then_sync s' l' r c x a sent) c' y (inl q) sy =
      let same : c' ≡ c = one_counter c' c y sy (subst (SyncSent m i c) (sym q) sent) in
      record {
        d = 0;
        count = omega (arith, sy.small);
        back = omega (arith, ap (λ (z : Sent). z.at.0) q);
        same = λ e. q;
      }
  aged s l (then_sync s' l' r c x a sent) c' y (inr p) sy = older_still s' c c' x y a (aged s' l' r c' y p sy)
  aged s l (then_fup c x l' older r head sent f fs) c' y (inl q) sy =
      fup_no_sync c c' x f fs (subst (SyncSent m i c') q sy)
  aged s l (then_fup c x l' older r head sent f fs) c' y (inr p) sy = aged (newest c x) l' r c' y p sy

  -- ---- two SYNCs with one counter

  abbrev pub Apart : Sent → Sent → Type 0
  Apart x y =
      (x ≡ y) ⊎ (x.at.0 + 16 * m.period ≤ y.at.0) ⊎ (y.at.0 + 16 * m.period ≤ x.at.0)

  sixteen : (p d : ℕ) → (d ≡ 0 → ⊥) → d % 16 ≡ 0 → 16 * p ≤ d * p
  sixteen p d n e = let far : 16 ≤ d = omega arith in mul-le-mul_right p far

  -- x is the newest
  apart_newest : (c : ℕ) (x y : Sent) → SyncSent m i c x → Aged c c x y → Apart y x
  apart_newest c x y sx g = go (eqb g.d 0) refl
    where
      go : (b : Bool) → eqb g.d 0 ≡ b → Apart y x
      go true e = inl (g.same (eqb-true _ _ e))
      go false e =
          let far : 16 * m.period ≤ g.d * m.period =
          sixteen m.period g.d (eqb-false _ _ e) (omega (arith, g.count, sx.small)) in
          inr (inl (omega (arith, g.back)))

  apart_from :
      (c₀ c : ℕ) (z x y : Sent) → SyncSent m i c₀ z → x ≡ z → SyncSent m i c x → Aged c₀ c z y → Apart y x
  apart_from c₀ c z x y sent e sx g =
      let sz = subst (SyncSent m i c) e sx in
      subst (Apart y) (sym e)
      (apart_newest c z y sz (subst (λ (b : ℕ). Aged b c z y) (one_counter c₀ c z sent sz) g))

  turned : (x y : Sent) → Apart x y → Apart y x
  turned x y = ⊎_elim (λ e. inl (sym e)) (⊎_elim (λ e. inr (inr e)) (λ e. inr (inl e)))

  pub apart :
      (s : Newest) (l : List Sent) → Row m i s l → (c : ℕ) (x y : Sent) → In x l → In y l →
      SyncSent m i c x → SyncSent m i c y → Apart x y
  apart s l none c x y p q sx sy = absurd p
  apart s l (then_sync s' l' r c₀ z a sent) c x y (inl e) (inl f) sx sy = inl (e ∙ sym f)
  apart s l (then_sync s' l' r c₀ z a sent) c x y (inl e) (inr q) sx sy =
      turned y x (apart_from c₀ c z x y sent e sx (older_still s' c₀ c z y a (aged s' l' r c y q sy)))
  apart s l (then_sync s' l' r c₀ z a sent) c x y (inr p) (inl f) sx sy =
      apart_from c₀ c z y x sent f sy (older_still s' c₀ c z x a (aged s' l' r c x p sx))
  apart s l (then_sync s' l' r c₀ z a sent) c x y (inr p) (inr q) sx sy = apart s' l' r c x y p q sx sy
  apart s l (then_fup c₀ z l' older r head sent f fs) c x y (inl e) q sx sy =
      fup_no_sync c₀ c z f fs (subst (SyncSent m i c) e sx)
  apart s l (then_fup c₀ z l' older r head sent f fs) c x y (inr p) (inl e) sx sy =
      fup_no_sync c₀ c z f fs (subst (SyncSent m i c) e sy)
  apart s l (then_fup c₀ z l' older r head sent f fs) c x y (inr p) (inr q) sx sy =
      apart (newest c₀ z) l' r c x y p q sx sy

  -- ---- the FUPs of a row

  pub record Pair (f y : Sent) : Type 0 where
    pub counter : ℕ
    pub sync : SyncSent m i counter y
    pub fup : FupSent m i counter y f

  pub record PairIn (l : List Sent) (f : Sent) : Type 0 where
    pub y : Sent
    pub pair : Pair f y
    pub newer : List Sent
    pub older : List Sent
    pub here : l ≡ newer ++ (f ∷ y ∷ older)
    pub there : In y l

  then_in : (x f : Sent) (l : List Sent) → PairIn l f → PairIn (x ∷ l) f
  then_in x f l g =
      record {
        y = g.y;
        pair = g.pair;
        newer = x ∷ g.newer;
        older = g.older;
        here = ap (λ (t : List Sent). x ∷ t) g.here;
        there = inr g.there;
      }

  pub each_known : (s : Newest) (l : List Sent) → Row m i s l → (z : Sent) → In z l → Known z ⊎ PairIn l z
  each_known s l none z p = absurd p
  each_known s l (then_sync s' l' r c x a sent) z (inl q) =
      inl (record { counter = c; sent = subst (SyncSent m i c) (sym q) sent })
  each_known s l (then_sync s' l' r c x a sent) z (inr p) =
      ⊎_elim (λ g. inl g) (λ g. inr (then_in x z l' g)) (each_known s' l' r z p)
  each_known s l (then_fup c x l' older r head sent f fs) z (inl q) =
      inr
      (record {
        y = x;
        pair = record { counter = c; sync = sent; fup = subst (FupSent m i c x) (sym q) fs };
        newer = [];
        older = older;
        here = λ j. sym q j ∷ head j;
        there = inr (subst (In x) (sym head) (inl refl));
      })
  each_known s l (then_fup c x l' older r head sent f fs) z (inr p) =
      ⊎_elim (λ g. inl g) (λ g. inr (then_in f z l' g)) (each_known (newest c x) l' r z p)

  -- the FUP next to a SYNC confirms it
  pub fup_here :
      (s : Newest) (f y : Sent) (older : List Sent) → Row m i s (f ∷ y ∷ older) → is_fup f ≡ true → Pair f y
  fup_here s f y older (then_sync s' l' r c x a sent) e = no_both (is_fup f) e (sync_bytes c f sent).is_not
  fup_here s f y older (then_fup c x l' older' r head sent z fs) e =
      let same : x ≡ y = cc in
      record {
        counter = c;
        sync = subst (SyncSent m i c) same sent;
        fup = subst (λ (y : Sent). FupSent m i c y f) same fs;
      }

  -- ---- what was sent before is a row too
  pub record RowOf (l : List Sent) : Type 0 where
    pub latest : Newest
    pub row : Row m i latest l

  pub row_before : (newer older : List Sent) (s : Newest) → Row m i s (newer ++ older) → RowOf older
  row_before [] older s r = record { latest = s; row = r }
  row_before (z ∷ newer) older s (then_sync s' l' r c x a sent) = row_before newer older s' r
  row_before (z ∷ newer) older s (then_fup c x l' older' r head sent f fs) = row_before newer older (newest c x) r

  -- ---- the frames are read as the values sent
  pub sync_read :
      (c : ℕ) (y : Sent) → i < places → SyncSent m i c y →
      read_of y.bytes ≡ Ok (sync (sync_values m i c y.time.0))
  sync_read c y h s =
      ap read_of s.bytes
      ∙ read_back m.ids (sync (sync_values m i c y.time.0))
      (record { domain = h; counter = s.small; seconds = omega (arith, s.seconds) })

  pub fup_read :
      (c : ℕ) (y f : Sent) → i < places → c < 16 → FupSent m i c y f →
      read_of f.bytes
      ≡ Ok (fup (fup_values m i c (ovs_of y.time y.at f.at) (whole_of y.time y.at f.at).1))
  fup_read c y f h small s =
      ap read_of s.bytes
      ∙ read_back m.ids
      (fup (fup_values m i c (ovs_of y.time y.at f.at) (whole_of y.time y.at f.at).1))
      (record { domain = h; counter = small; ovs = omega (arith, s.ovs); nanoseconds = omega arith })

-- ---- nothing in a row was sent after what follows it

abbrev pub Under : (limit : ℕ) → List Sent → Type 0
Under limit [] = Unit {0}
Under limit (z ∷ l) = (z.at.0 ≤ limit) × Under limit l

abbrev ConfirmedBy : DomainSettings → (limit : ℕ) → Newest → Type 0
ConfirmedBy m limit no_sync = Unit {0}
ConfirmedBy m limit (newest c y) = y.at.0 + m.confirmation_time ≤ limit

module _ (m : DomainSettings) (i : ℕ) (brief : m.confirmation_time ≤ m.period) where
  then_by : (limit c : ℕ) (s : Newest) (y : Sent) → After m s c y → y.at.0 ≤ limit → ConfirmedBy m limit s
  then_by limit c no_sync y a h = tt
  then_by limit c (newest c₀ y₀) y a h = omega (arith, a.1, h, brief)

  all_under : (limit : ℕ) (s : Newest) (l : List Sent) → Row m i s l → ConfirmedBy m limit s → Under limit l
  all_under limit s l none h = tt
  all_under limit s l (then_sync s' l' r c y a sent) h =
      let last : y.at.0 ≤ limit = omega (arith, h) in
      (last, all_under limit s' l' r (then_by limit c s' y a last))
  all_under limit s l (then_fup c y l' older r head sent f fs) h =
      (omega (arith, h, fs.soon), all_under limit (newest c y) l' r h)

  -- a SYNC's FUP was not sent before it
  sync_under :
      (limit c : ℕ) (s : Newest) (y : Sent) (l older : List Sent) → Row m i s l → l ≡ y ∷ older → SyncSent m i c y →
      y.at.0 ≤ limit → Under limit l
  sync_under limit c s y l older none head sent h = tt
  sync_under limit c s y l older (then_sync s' l' r c' x a sent') head sent h =
      let same : x ≡ y = cc in
      let last : x.at.0 ≤ limit = rw same h in
      (last, all_under limit s' l' r (then_by limit c' s' x a last))
  sync_under limit c s y l older (then_fup c' x l' older' r head' sent' f fs) head sent h =
      let same : f ≡ y = cc in
      fup_no_sync m i c' c x f fs (subst (SyncSent m i c) (sym same) sent)

  pub never_rise : (s : Newest) (z : Sent) (l : List Sent) → Row m i s (z ∷ l) → Under z.at.0 l
  never_rise s z l (then_sync s' l' r c y a sent) =
      all_under z.at.0 s' l r (then_by z.at.0 c s' z a (omega arith))
  never_rise s z l (then_fup c y l' older r head sent f fs) =
      sync_under z.at.0 c (newest c y) y l older r head sent fs.later
