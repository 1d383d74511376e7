-- No two results satisfy the promise of F, as `F_only` for each public function F. No contract cites
-- this file.
-- Assumes nothing.
use Prim.Native.Nat.{ℕ}
use mathlib.Core.Path.{◌≡◌}
use mathlib.Core.List.{List}
use Rattle.promise.specs.Only.{OnlyOne}
use Rattle.promise.proofs.Laws.{equation_only}
use Rattle.crc8.specs.Crc8.{eight_steps_of, byte_step_of, crc_of, check_of}

pub entry_only : (index : ℕ) → OnlyOne (λ (r : ℕ). r ≡ eight_steps_of index)
entry_only index = equation_only (eight_steps_of index)

pub byte_step_only : (remainder byte : ℕ) → OnlyOne (λ (r : ℕ). r ≡ byte_step_of remainder byte)
byte_step_only remainder byte = equation_only (byte_step_of remainder byte)

pub crc_only : (bytes : List ℕ) → OnlyOne (λ (r : ℕ). r ≡ crc_of bytes)
crc_only bytes = equation_only (crc_of bytes)

pub check_only : (bytes : List ℕ) (dataId : ℕ) → OnlyOne (λ (r : ℕ). r ≡ check_of bytes dataId)
check_only bytes dataId = equation_only (check_of bytes dataId)
