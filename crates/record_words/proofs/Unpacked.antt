-- What was packed into a word is read out of it. No contract cites this file.
--   unpacked      a half and four bytes
--   eight_back    eight bytes
-- Assumes nothing.
use Prim.Native.Nat.{ℕ, ◌/◌, ◌%◌, ◌<◌}
use mathlib.Core.Path.{◌≡◌}
use mathlib.Core.List.{List, ◌∷◌}
use native.Mathlib.Omega.{arith}
use Rattle.record_words.specs.Packed.{
  low_of,
  byte0,
  byte1,
  byte4,
  byte5,
  byte6,
  byte7,
  packed_of,
  half_of,
  eight_of,
}

pub record Unpacked (word low a b c d : ℕ) : Type 0 where
  pub half : low_of word ≡ low
  pub four : byte4 word ≡ a
  pub five : byte5 word ≡ b
  pub six : byte6 word ≡ c
  pub seven : byte7 word ≡ d

pub unpacked :
    (low a b c d : ℕ) → low < 4294967296 → a < 256 → b < 256 → c < 256 → d < 256 →
    Unpacked (packed_of low a b c d) low a b c d
unpacked low a b c d hl ha hb hc hd =
    record { half = omega arith; four = omega arith; five = omega arith; six = omega arith; seven = omega arith }

-- ---- the bytes of the lower half
module _ (a b c d e f g h : ℕ) (ha : a < 256) (hb : b < 256) (hc : c < 256) (hd : d < 256) where
  pub byte0_back : byte0 (packed_of (half_of a b c d) e f g h) ≡ a
  byte0_back = omega arith

  pub byte1_back : byte1 (packed_of (half_of a b c d) e f g h) ≡ b
  byte1_back = omega arith

  byte2_back : packed_of (half_of a b c d) e f g h / 65536 % 256 ≡ c
  byte2_back = omega arith

  byte3_back : packed_of (half_of a b c d) e f g h / 16777216 % 256 ≡ d
  byte3_back = omega arith

  pub eight_back :
      (rest : List ℕ) → e < 256 → f < 256 → g < 256 → h < 256 →
      eight_of (packed_of (half_of a b c d) e f g h) rest ≡ a ∷ b ∷ c ∷ d ∷ e ∷ f ∷ g ∷ h ∷ rest
  eight_back rest he hf hg hh =
      let u = unpacked (half_of a b c d) e f g h (omega arith) he hf hg hh in
      λ i.
      byte0_back i ∷ byte1_back i ∷ byte2_back i ∷ byte3_back i ∷ u.four i ∷ u.five i ∷ u.six i ∷ u.seven i ∷ rest
