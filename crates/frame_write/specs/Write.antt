-- Paper 01, "Frames": the bytes of a frame's values. Assumes nothing.
use Rattle.std.specs.Prelude.{ℕ, ◌+◌, ◌/◌, ◌%◌, ◌≡◌, Bool, cond, List, [], ◌∷◌, ◌++◌, leb, length, take, drop, Result, Ok, Err, ⊤}
use Rattle.crc8.specs.Crc8.{check_of}
use Rattle.frame.specs.ByteTwo.{byte_two_of}
use Rattle.frame.specs.Ids.{id_at}
use Rattle.frame.specs.declared.data_ids.DataIds.{DataIds}
use Rattle.frame.specs.declared.values.Protection.{Protection}
use Rattle.frame.specs.declared.values.Protection.TheVariants.{Plain, Secured}
use Rattle.frame.specs.declared.values.Frame.{Frame}
use Rattle.frame.specs.declared.values.Frame.TheVariants.{Sync as sync, Fup as fup}
use Rattle.frame_write.specs.declared.NoRoom.{NoRoom}

-- ---- byte 3 of a FUP: "bit 2 SGW, bits 1-0 OVS", "A writer sets reserved bits to 0"
abbrev pub flags : Bool → ℕ → ℕ
flags sgw ovs = cond sgw (4 + ovs % 4) (ovs % 4)

-- ---- bytes 2 to 7, the last four of them "big-endian"
abbrev pub rest_of : (two three word : ℕ) → List ℕ
rest_of two three word =
    two ∷ three ∷ word / 16777216 % 256 ∷ word / 65536 % 256 ∷ word / 256 % 256 ∷ word % 256 ∷ []

-- ---- bytes 0 and 1: "user byte 1 / check byte", "user byte 2 / check byte"; the check byte is
-- "over bytes 2 to 7 and then the DataID"
abbrev pub framed_of : (plain secured : ℕ) → Protection → (two three word id : ℕ) → List ℕ
framed_of plain secured (Plain user) two three word id = plain ∷ user ∷ rest_of two three word
framed_of plain secured Secured two three word id =
    secured ∷ check_of (rest_of two three word) id ∷ rest_of two three word

-- ---- the table
abbrev pub bytes_of : DataIds → Frame → List ℕ
bytes_of ids (sync s) =
    framed_of 0x10 0x20 s.protection
    (byte_two_of s.domain s.counter)
    s.user0
    s.seconds
    (id_at ids.sync s.counter)
bytes_of ids (fup f) =
    framed_of 0x18 0x28 f.protection
    (byte_two_of f.domain f.counter)
    (flags f.sgw f.ovs)
    f.nanoseconds
    (id_at ids.fup f.counter)

-- ---- A frame in a lent buffer, from index `at` on: all other bytes stay, and all stay where there is
-- no room.
abbrev pub is_room : ℕ → List ℕ → Bool
is_room at out = leb (at + 8) (length out)

abbrev pub written_in : List ℕ → ℕ → List ℕ → List ℕ
written_in bytes at out = take at out ++ bytes ++ drop (at + 8) out

pub record WrittenAt (frame : Frame) (ids : DataIds) (at : ℕ) (before : List ℕ)
    (r : Result ⊤ NoRoom) (after : List ℕ) : Type 0 where
  pub answer : r ≡ cond (is_room at before) (Ok tt) (Err (record {}))
  pub bytes : after ≡ cond (is_room at before) (written_in (bytes_of ids frame) at before) before
