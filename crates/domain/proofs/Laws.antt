-- Laws of the record. No contract cites this file.
--   record_size     a record has 200 bytes on the machine that the proofs speak of
--   update_bound    the update counter stays a byte
-- Assumes nothing.
use Prim.Native.Nat.{ℕ, ◌<◌}
use mathlib.Core.Path.{◌≡◌, refl}
use native.Mathlib.Omega.{arith}
use prog.Memory.{size}
use Rattle.domain.proofs.Domain.TheLaws.{mir}
use Rattle.domain.specs.Updates.{next_update}

pub record_size : size mir ≡ 200
record_size = refl

pub update_bound : (updates : ℕ) → next_update updates < 256
update_bound updates = omega arith
