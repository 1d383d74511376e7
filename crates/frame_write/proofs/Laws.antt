-- Laws of the bytes of a frame. No contract cites this file.
--   bytes_length    a frame has 8 bytes
-- Assumes nothing.
use Prim.Native.Nat.{ℕ}
use mathlib.Core.Path.{◌≡◌, refl}
use lib.ListN.{length}
use Rattle.frame.specs.declared.data_ids.DataIds.{DataIds}
use Rattle.frame.specs.declared.values.Protection.{Protection}
use Rattle.frame.specs.declared.values.Protection.TheVariants.{Plain, Secured}
use Rattle.frame.specs.declared.values.Frame.{Frame}
use Rattle.frame.specs.declared.values.Frame.TheVariants.{Sync as sync, Fup as fup}
use Rattle.frame_write.specs.Write.{framed_of, bytes_of}

-- ---- length

pub framed_length :
    (plain secured : ℕ) (p : Protection) (two three word id : ℕ) →
    length (framed_of plain secured p two three word id) ≡ 8
framed_length plain secured (Plain user) two three word id = refl
framed_length plain secured Secured two three word id = refl

pub bytes_length : (ids : DataIds) (f : Frame) → length (bytes_of ids f) ≡ 8
bytes_length ids (sync s) = framed_length 0x10 0x20 s.protection _ _ _ _
bytes_length ids (fup f) = framed_length 0x18 0x28 f.protection _ _ _ _
