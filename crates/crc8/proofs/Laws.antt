-- Laws of the check byte. No contract cites this file.
--   step_bound          a polynomial step of any number gives a byte
--   eight_steps_bound   eight polynomial steps of any number give a byte
--   remainder_bound     from a byte, the remainder over any list is a byte
--   crc_bound           the CRC of any list is a byte
--   check_bound         the check byte of any list and any DataID is a byte
-- Assumes nothing.
use mathlib.Core.Bool.{Bool, true, false, cond}
use mathlib.Core.List.{List, [], ◌∷◌, ◌++◌}
use Prim.Native.Nat.{ℕ, ◌*◌, ◌<◌}
use native.Mathlib.Nat.{mod-lt}
use lib.Bits.{xor_lt}
use lib.Dec.{leb, lit<}
use Rattle.crc8.specs.Crc8.{step_of, eight_steps_of, byte_step_of, remainder_of, crc_of, check_of}

-- ---- bounds

cond_bound : (b : Bool) {x y n : ℕ} → x < n → y < n → cond b x y < n
cond_bound true hx hy = hx
cond_bound false hx hy = hy

pub step_bound : (remainder : ℕ) → step_of remainder < 0x100
unfolding step_of
step_bound remainder =
    let doubled = mod-lt (remainder * 2) (lit< tt) in
    cond_bound (leb 0x80 remainder) (xor_lt 8 _ _ doubled (lit< tt)) doubled

pub eight_steps_bound : (remainder : ℕ) → eight_steps_of remainder < 0x100
unfolding eight_steps_of
eight_steps_bound remainder = step_bound _

pub remainder_bound : (start : ℕ) (bytes : List ℕ) → start < 0x100 → remainder_of start bytes < 0x100
remainder_bound start [] h = h
remainder_bound start (byte ∷ bytes) h = remainder_bound (byte_step_of start byte) bytes (eight_steps_bound _)

pub crc_bound : (bytes : List ℕ) → crc_of bytes < 0x100
unfolding crc_of
crc_bound bytes = xor_lt 8 _ _ (remainder_bound _ bytes (lit< tt)) (lit< tt)

pub check_bound : (bytes : List ℕ) (dataId : ℕ) → check_of bytes dataId < 0x100
unfolding check_of
check_bound bytes dataId = crc_bound (bytes ++ (dataId ∷ []))
