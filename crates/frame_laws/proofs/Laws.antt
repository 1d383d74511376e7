-- Laws of the frames. No contract cites this file.
--   read_back       what is written from values that fit is read as the same values (demand 2)
--   write_back      a frame that reads, with a right check byte if it has one and zero reserved bits,
--                   is written back byte for byte (demand 2)
--   byte_below      each place of bytes holds one
--   good_back       what is written is good under each mode that takes its kind
--   named_back      it names the domain of its values
-- Assumes nothing.
use Rattle.std.specs.Prelude.{Err, None, Ok, Option, Result, Some}
use Prim.Native.Nat.{ℕ, zero, suc, ◌+◌, ◌*◌, ◌/◌, ◌%◌, ◌^◌, ◌<◌}
use mathlib.Core.Path.{◌≡◌, refl, sym, ap, ◌∙◌, subst}
use mathlib.Core.Bool.{Bool, true, false, cond}
use mathlib.Core.List.{List, [], ◌∷◌}
use native.Mathlib.Nat.{div-add-mod'}
use native.Mathlib.Omega.{arith}
use lib.Dec.{eqb}
use lib.ListN.{length, get_or, drop}
use borrow.Author.Tests.{eq-eqb, ne_eqb, eqb-true, eqb-false, ltb-true}
use Rattle.crc8.specs.Crc8.{check_of}
use Rattle.crc8.proofs.Values.{values_of as list_of, values_all}
use Rattle.frame.specs.declared.data_ids.DataIds.{DataIds}
use Rattle.frame.specs.declared.values.Protection.{Protection}
use Rattle.frame.specs.declared.values.Protection.TheVariants.{Plain, Secured}
use Rattle.frame.specs.declared.values.Frame.{Frame}
use Rattle.frame.specs.declared.values.Frame.TheVariants.{Sync as sync, Fup as fup}
use Rattle.frame_check.specs.declared.CheckMode.{CheckMode}
use Rattle.frame.specs.Types.{type_of}
use Rattle.frame.specs.ByteTwo.{byte_two_of}
use Rattle.frame.specs.Ids.{id_at}
use Rattle.frame_read.specs.Read.{named_domain, read_of, values_of, word_of, sync_in, fup_in}
use Rattle.frame_write.specs.Write.{flags, rest_of, framed_of, bytes_of}
use Rattle.frame_check.specs.Check.{is_taken, is_right, takes_secured}
use Rattle.frame.specs.Values.{domain_in, protection_in}
use Rattle.frame_laws.specs.RoundTrip.{FrameFits, takes_kind, AreBytes, zero_reserved, right_if_secured}
use Rattle.frame.specs.declared.types.FrameType.{FrameType}
use Rattle.frame.specs.declared.types.FrameType.TheVariants.{PlainFup, PlainSync, SecuredFup, SecuredSync}
use Rattle.frame_read.specs.declared.NoFrame.{NoFrame}
use Rattle.frame_read.specs.declared.NoFrame.TheVariants.{LengthNot8}

-- ---- read-back

sgw_back : (sgw : Bool) (ovs : ℕ) → eqb (flags sgw ovs / 4 % 2) 1 ≡ sgw
sgw_back true ovs = eq-eqb ((4 + ovs % 4) / 4 % 2) 1 (omega arith)
sgw_back false ovs = ne_eqb (ovs % 4 / 4 % 2) 1 (omega arith)

ovs_back : (sgw : Bool) (ovs : ℕ) → ovs < 4 → flags sgw ovs % 4 ≡ ovs
ovs_back true ovs h = omega arith
ovs_back false ovs h = omega arith

abbrev sync_values : (domain counter user0 seconds : ℕ) → Protection → Result Frame NoFrame
sync_values d c u s p = Ok (sync (record { domain = d; counter = c; user0 = u; seconds = s; protection = p }))

abbrev fup_values : (domain counter : ℕ) → Bool → (ovs nanoseconds : ℕ) → Protection → Result Frame NoFrame
fup_values d c g o n p =
    Ok (fup (record { domain = d; counter = c; sgw = g; ovs = o; nanoseconds = n; protection = p }))

module _ (domain counter word : ℕ) (hd : domain < 16) (hc : counter < 16) (hw : word < 2 ^ 32) where
  domain_back : byte_two_of domain counter / 16 ≡ domain
  domain_back = omega arith

  counter_back : byte_two_of domain counter % 16 ≡ counter
  counter_back = omega arith

  word_back :
      ((word / 16777216 % 256 * 256 + word / 65536 % 256) * 256 + word / 256 % 256) * 256 + word % 256 ≡ word
  word_back =
      let two : word / 65536 ≡ word / 256 / 256 = omega arith in
      let three : word / 16777216 % 256 ≡ word / 256 / 256 / 256 = omega arith in
      rw (three, two, div-add-mod' (word / 256 / 256) 256, div-add-mod' (word / 256) 256, div-add-mod' word 256)

  sync_back :
      (user0 id : ℕ) (p : Protection) →
      read_of (framed_of 0x10 0x20 p (byte_two_of domain counter) user0 word id)
      ≡ sync_values domain counter user0 word p
  sync_back user0 id (Plain user) = λ i. sync_values (domain_back i) (counter_back i) user0 (word_back i) (Plain user)
  sync_back user0 id Secured = λ i. sync_values (domain_back i) (counter_back i) user0 (word_back i) Secured

  fup_back :
      (sgw : Bool) (ovs id : ℕ) → ovs < 4 → (p : Protection) →
      read_of (framed_of 0x18 0x28 p (byte_two_of domain counter) (flags sgw ovs) word id)
      ≡ fup_values domain counter sgw ovs word p
  fup_back sgw ovs id h (Plain user) =
      λ i.
      fup_values (domain_back i) (counter_back i) (sgw_back sgw ovs i) (ovs_back sgw ovs h i) (word_back i) (Plain user)
  fup_back sgw ovs id h Secured =
      λ i. fup_values (domain_back i) (counter_back i) (sgw_back sgw ovs i) (ovs_back sgw ovs h i) (word_back i) Secured

pub read_back : (ids : DataIds) (f : Frame) → FrameFits f → read_of (bytes_of ids f) ≡ Ok f
read_back ids (sync s) h =
    sync_back s.domain s.counter s.seconds (omega arith) (omega arith) (omega arith)
    s.user0 (id_at ids.sync s.counter) s.protection
read_back ids (fup f) h =
    fup_back f.domain f.counter f.nanoseconds (omega arith) (omega arith) (omega arith)
    f.sgw f.ovs (id_at ids.fup f.counter) (omega arith) f.protection

-- ---- write-back

-- what a type says of byte 0
abbrev TypeIs : Option FrameType → ℕ → Type 0
TypeIs (Some PlainSync) byte = byte ≡ 0x10
TypeIs (Some SecuredSync) byte = byte ≡ 0x20
TypeIs (Some PlainFup) byte = byte ≡ 0x18
TypeIs (Some SecuredFup) byte = byte ≡ 0x28
TypeIs None byte = Unit {0}

type_is : (byte : ℕ) → TypeIs (type_of byte) byte
type_is byte = go (eqb byte 0x10) refl (eqb byte 0x20) refl (eqb byte 0x18) refl (eqb byte 0x28) refl
  where
    go :
        (a : Bool) → eqb byte 0x10 ≡ a → (b : Bool) → eqb byte 0x20 ≡ b →
        (c : Bool) → eqb byte 0x18 ≡ c → (d : Bool) → eqb byte 0x28 ≡ d →
        TypeIs (cond a (Some PlainSync) (cond b (Some SecuredSync) (cond c (Some PlainFup) (cond d (Some SecuredFup) None)))) byte
    go true e b f c g d h = eqb-true byte 0x10 e
    go false e true f c g d h = eqb-true byte 0x20 f
    go false e false f true g d h = eqb-true byte 0x18 g
    go false e false f false g true h = eqb-true byte 0x28 h
    go false e false f false g false h = tt

flags_of : (three : ℕ) → three < 8 → flags (eqb (three / 4 % 2) 1) (three % 4) ≡ three
flags_of three h = go (eqb (three / 4 % 2) 1) refl
  where
    go : (b : Bool) → eqb (three / 4 % 2) 1 ≡ b → flags b (three % 4) ≡ three
    go true e = omega (arith, eqb-true (three / 4 % 2) 1 e)
    go false e = omega (arith, eqb-false (three / 4 % 2) 1 e)

module _ (ids : DataIds) (zero' one two three four five six seven : ℕ)
    (h₂ : two < 256) (h₄ : four < 256) (h₅ : five < 256) (h₆ : six < 256) (h₇ : seven < 256) where
  abbrev eight : List ℕ
  eight = zero' ∷ one ∷ two ∷ three ∷ four ∷ five ∷ six ∷ seven ∷ []

  rest_of_lem : (t : ℕ) → t ≡ three → rest_of (byte_two_of (two / 16) (two % 16)) t (word_of eight) ≡ drop 2 eight
  rest_of_lem t p₃ =
      let p₂ : byte_two_of (two / 16) (two % 16) ≡ two = omega arith in
      let p₄ : word_of eight / 16777216 % 256 ≡ four = omega arith in
      let p₅ : word_of eight / 65536 % 256 ≡ five = omega arith in
      let p₆ : word_of eight / 256 % 256 ≡ six = omega arith in
      let p₇ : word_of eight % 256 ≡ seven = omega arith in
      λ i. p₂ i ∷ p₃ i ∷ p₄ i ∷ p₅ i ∷ p₆ i ∷ p₇ i ∷ []

  check_of_lem :
      (list : List ℕ) (t : ℕ) → t ≡ three → is_right list eight ≡ true →
      check_of (rest_of (byte_two_of (two / 16) (two % 16)) t (word_of eight)) (id_at list (two % 16)) ≡ one
  check_of_lem list t e r =
      ap (λ (rest : List ℕ). check_of rest (id_at list (two % 16))) (rest_of_lem t e) ∙ sym (eqb-true one _ r)

  back :
      (k : Option FrameType) → TypeIs k zero' → (f : Frame) → values_of k eight ≡ Ok f →
      zero_reserved k eight ≡ true → right_if_secured k ids eight ≡ true → bytes_of ids f ≡ eight
  back (Some PlainSync) t f e z r =
      let q : sync (sync_in eight (Plain one)) ≡ f = cc in
      let p = rest_of_lem three refl in
      subst (λ (f : Frame). bytes_of ids f ≡ eight) q (λ i. sym t i ∷ one ∷ p i)
  back (Some SecuredSync) t f e z r =
      let q : sync (sync_in eight Secured) ≡ f = cc in
      let p = rest_of_lem three refl in
      let c = check_of_lem ids.sync three refl r in
      subst (λ (f : Frame). bytes_of ids f ≡ eight) q (λ i. sym t i ∷ c i ∷ p i)
  back (Some PlainFup) t f e z r =
      let q : fup (fup_in eight (Plain one)) ≡ f = cc in
      let p = rest_of_lem _ (flags_of three (omega (arith, ltb-true))) in
      subst (λ (f : Frame). bytes_of ids f ≡ eight) q (λ i. sym t i ∷ one ∷ p i)
  back (Some SecuredFup) t f e z r =
      let q : fup (fup_in eight Secured) ≡ f = cc in
      let p = rest_of_lem _ (flags_of three (omega (arith, ltb-true))) in
      let c = check_of_lem ids.fup _ (flags_of three (omega (arith, ltb-true))) r in
      subst (λ (f : Frame). bytes_of ids f ≡ eight) q (λ i. sym t i ∷ c i ∷ p i)
  back None t f e z r = let no : ◌≡◌ {A = ℕ} 0 1 = cc in absurd (omega arith)

-- a frame that reads has 8 bytes, and its type is read
reads :
    (bytes : List ℕ) (f : Frame) → read_of bytes ≡ Ok f →
    (length bytes ≡ 8) × (values_of (type_of (get_or bytes 0 0)) bytes ≡ Ok f)
reads bytes f = go (eqb (length bytes) 8) refl
  where
    go :
        (b : Bool) → eqb (length bytes) 8 ≡ b →
        cond b (values_of (type_of (get_or bytes 0 0)) bytes) (Err LengthNot8) ≡ Ok f →
        (length bytes ≡ 8) × (values_of (type_of (get_or bytes 0 0)) bytes ≡ Ok f)
    go true w e = (eqb-true _ 8 w, e)
    go false w e = let no : ◌≡◌ {A = ℕ} 0 1 = cc in absurd (omega arith)

pub byte_below : (bytes : List ℕ) (i : ℕ) → AreBytes bytes → get_or bytes i 0 < 256
byte_below [] i h = omega arith
byte_below (b ∷ rest) zero h = h.0
byte_below (b ∷ rest) (suc i) h = byte_below rest i h.1

abbrev WriteBack : DataIds → Frame → List ℕ → Type 0
WriteBack ids f bytes =
    AreBytes bytes → read_of bytes ≡ Ok f →
    zero_reserved (type_of (get_or bytes 0 0)) bytes ≡ true →
    right_if_secured (type_of (get_or bytes 0 0)) ids bytes ≡ true →
    bytes_of ids f ≡ bytes

pub write_back : (ids : DataIds) (f : Frame) (bytes : List ℕ) → WriteBack ids f bytes
write_back ids f bytes are e =
    let b : ℕ → ℕ = λ k. get_or bytes k 0 in
    let small : (k : ℕ) → b k < 256 = λ k. byte_below bytes k are in
    let all : list_of b 8 ≡ bytes = ap (list_of b) (sym (reads bytes f e).0) ∙ values_all bytes in
    subst (WriteBack ids f) all
    (λ small' e'.
    back ids (b 0) (b 1) (b 2) (b 3) (b 4) (b 5) (b 6) (b 7) (small 2) (small 4) (small 5) (small 6) (small 7)
    (type_of (b 0)) (type_is (b 0)) f (reads (list_of b 8) f e').1)
    are e

-- ---- good-back

module _ (list : List ℕ) (domain counter three word : ℕ) where
  abbrev two : ℕ
  two = byte_two_of domain counter

  right_back :
      (secured : ℕ) →
      is_right list (framed_of 0 secured Secured two three word (id_at list counter)) ≡ true
  right_back secured =
      let same : counter % 16 ≡ two % 16 % 16 = omega arith in
      eq-eqb _ _ (ap (λ (k : ℕ). check_of (rest_of two three word) (get_or list k 0)) same)

good_sync :
    (mode : CheckMode) (ids : DataIds) (domain counter user0 seconds : ℕ) (p : Protection) →
    is_taken mode ids
    (framed_of 0x10 0x20 p (byte_two_of domain counter) user0 seconds (id_at ids.sync counter))
    ≡ takes_kind mode p
good_sync mode ids d c u s (Plain user) = refl
good_sync mode ids d c u s Secured = ap (takes_secured mode) (right_back ids.sync d c u s 0x20)

good_fup :
    (mode : CheckMode) (ids : DataIds) (domain counter three nanoseconds : ℕ) (p : Protection) →
    is_taken mode ids
    (framed_of 0x18 0x28 p (byte_two_of domain counter) three nanoseconds (id_at ids.fup counter))
    ≡ takes_kind mode p
good_fup mode ids d c t n (Plain user) = refl
good_fup mode ids d c t n Secured = ap (takes_secured mode) (right_back ids.fup d c t n 0x28)

pub good_back :
    (mode : CheckMode) (ids : DataIds) (f : Frame) →
    is_taken mode ids (bytes_of ids f) ≡ takes_kind mode (protection_in f)
good_back mode ids (sync s) = good_sync mode ids s.domain s.counter s.user0 s.seconds s.protection
good_back mode ids (fup f) =
    good_fup mode ids f.domain f.counter (flags f.sgw f.ovs) f.nanoseconds f.protection

-- ---- named_back

byte_two :
    (plain secured : ℕ) (p : Protection) (two three word id : ℕ) →
    get_or (framed_of plain secured p two three word id) 2 0 ≡ two
byte_two plain secured (Plain user) two three word id = refl
byte_two plain secured Secured two three word id = refl

pub named_back : (ids : DataIds) (f : Frame) → domain_in f < 16 → named_domain (bytes_of ids f) ≡ domain_in f
named_back ids (sync s) h =
    omega (
      arith,
      byte_two 0x10 0x20 s.protection (byte_two_of s.domain s.counter) s.user0 s.seconds
          (id_at ids.sync s.counter),
    )
named_back ids (fup f) h =
    omega (
      arith,
      byte_two 0x18 0x28 f.protection (byte_two_of f.domain f.counter) (flags f.sgw f.ovs)
          f.nanoseconds (id_at ids.fup f.counter),
    )
