-- Buffers between reads and writes. Assumes nothing.
use Rattle.std.specs.Prelude.{ℕ, ◌+◌, ◌-◌, min, ◌≡◌, cond, List, ltb, length, drop}
use Rattle.std.proofs.Math.Seq.{paste}

-- ---- The bytes from `used` to `held` go to the start of the buffer; those beyond them stay.
pub record KeptRest (used held : ℕ) (before : List ℕ) (r : ℕ) (after : List ℕ) : Type 0 where
  pub count : r ≡ min held (length before) - used
  pub bytes : after ≡ paste before 0 (drop used before) r

-- ---- The place for a line: the start of the buffer, once what stands there is written, where there is no room.
abbrev pub place_for : (at line length : ℕ) → ℕ
place_for at line length = cond (ltb length at) 0 (cond (ltb (length - at) line) 0 at)

-- ---- Items are counted from 1, in 64 bits.
abbrev pub next_item : ℕ → ℕ
next_item item = cond (ltb item 18446744073709551615) (item + 1) item
