-- Paper 01, "Frames": the check byte, by polynomial steps. No table stands here. Assumes nothing.
use Rattle.std.specs.Prelude.{ℕ, ◌*◌, ◌%◌, ◌<◌, ◌≡◌, cond, leb, get_or}
use mathlib.Core.List.{List, [], ◌∷◌, ◌++◌, foldl}
use Rattle.std.specs.Int.Bits.{bit_xor}

-- ---- "polynomial 0x2F", "not reflected"
-- one polynomial step: the remainder doubles within 8 bits, and the polynomial is taken off exactly
-- if the top bit was set
unfoldable pub step_of : ℕ → ℕ
step_of remainder =
    cond (leb 0x80 remainder) (bit_xor (remainder * 2 % 0x100) 0x2F) (remainder * 2 % 0x100)

unfoldable pub eight_steps_of : ℕ → ℕ
eight_steps_of remainder =
    step_of (step_of (step_of (step_of (step_of (step_of (step_of (step_of remainder)))))))

-- a byte enters at the top of the remainder, and its eight bits are worked off
abbrev pub byte_step_of : ℕ → ℕ → ℕ
byte_step_of remainder byte = eight_steps_of (bit_xor remainder byte)

abbrev pub remainder_of : ℕ → List ℕ → ℕ
remainder_of start bytes = foldl byte_step_of start bytes

-- ---- "start 0xFF, final exclusive-or 0xFF"
unfoldable pub crc_of : List ℕ → ℕ
crc_of bytes = bit_xor (remainder_of 0xFF bytes) 0xFF

-- ---- "over bytes 2 to 7 and then the DataID"
unfoldable pub check_of : List ℕ → ℕ → ℕ
check_of bytes dataId = crc_of (bytes ++ (dataId ∷ []))

-- ---- "a constant table of 256 bytes, whose rule is stated over all of it"
abbrev pub EightStepsEach : List ℕ → Type 0
EightStepsEach table = (index : ℕ) → index < 256 → get_or table index 0 ≡ eight_steps_of index
