-- A word of a half and four bytes: in the memory of a controller the half first, then the bytes in their order.
-- Assumes nothing.
use Rattle.std.specs.Prelude.{ℕ, ◌+◌, ◌*◌, ◌/◌, ◌%◌, List, [], ◌∷◌, get_or}

-- ---- The lower half and its first two bytes, and bytes 4 to 7.
abbrev pub low_of : ℕ → ℕ
low_of word = word % 4294967296

abbrev pub byte0 : ℕ → ℕ
byte0 word = word % 256

abbrev pub byte1 : ℕ → ℕ
byte1 word = word / 256 % 256

abbrev pub byte4 : ℕ → ℕ
byte4 word = word / 4294967296 % 256

abbrev pub byte5 : ℕ → ℕ
byte5 word = word / 1099511627776 % 256

abbrev pub byte6 : ℕ → ℕ
byte6 word = word / 281474976710656 % 256

abbrev pub byte7 : ℕ → ℕ
byte7 word = word / 72057594037927936 % 256

abbrev pub packed_of : (low a b c d : ℕ) → ℕ
packed_of low a b c d =
    low + a * 4294967296 + b * 1099511627776 + c * 281474976710656 + d * 72057594037927936

abbrev pub half_of : (a b c d : ℕ) → ℕ
half_of a b c d = a + b * 256 + c * 65536 + d * 16777216

-- ---- Eight bytes of a list as a word.
abbrev pub word_of : (at : ℕ) → List ℕ → ℕ
word_of at l =
    packed_of (half_of (get_or l at 0) (get_or l (at + 1) 0) (get_or l (at + 2) 0) (get_or l (at + 3) 0)) (get_or l (at + 4) 0)
    (get_or l (at + 5) 0) (get_or l (at + 6) 0) (get_or l (at + 7) 0)

-- ---- Eight bytes of a word, and sixteen of two.
abbrev pub eight_of : ℕ → List ℕ → List ℕ
eight_of word rest =
    byte0 word
    ∷ byte1 word
    ∷ word / 65536 % 256
    ∷ word / 16777216 % 256
    ∷ byte4 word
    ∷ byte5 word
    ∷ byte6 word
    ∷ byte7 word
    ∷ rest

abbrev pub sixteen_of : (one two : ℕ) → List ℕ
sixteen_of one two = eight_of one (eight_of two [])
