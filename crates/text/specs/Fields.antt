-- "numbers big-endian" (paper 01, "Bench program"), from a place on. Bytes beyond the end count as 0.
-- Assumes nothing.
use Rattle.std.specs.Prelude.{ℕ, zero, suc, ◌+◌, ◌*◌, List, [], ◌∷◌, get_or}

abbrev pub pair_at : List ℕ → (at : ℕ) → ℕ
pair_at bytes at = get_or bytes at 0 * 256 + get_or bytes (at + 1) 0

abbrev pub word_at : List ℕ → (at : ℕ) → ℕ
word_at bytes at = pair_at bytes at * 65536 + pair_at bytes (at + 2)

abbrev pub long_at : List ℕ → (at : ℕ) → ℕ
long_at bytes at = word_at bytes at * 4294967296 + word_at bytes (at + 4)

-- ---- k fields, one every `step` places.
abbrev pub fields_at : {A : Type 0} → (field : ℕ → A) (step k at : ℕ) → List A
fields_at field step zero at = []
fields_at field step (suc k) at = field at ∷ fields_at field step k (at + step)

-- ---- k bytes as they stand; k numbers of eight bytes.
abbrev pub bytes_at : (k : ℕ) → List ℕ → (at : ℕ) → List ℕ
bytes_at k bytes at = fields_at (λ (p : ℕ). get_or bytes p 0) 1 k at

abbrev pub longs_at : (k : ℕ) → List ℕ → (at : ℕ) → List ℕ
longs_at k bytes at = fields_at (long_at bytes) 8 k at
