-- Paper 01, "Frames": the check modes, "each frame judged on its own". Assumes nothing.
use Rattle.std.specs.Prelude.{ℕ, Bool, true, false, cond, List, eqb, length, get_or, drop, None, Option, Some}
use Rattle.crc8.specs.Crc8.{check_of}
use Rattle.frame.specs.declared.data_ids.DataIds.{DataIds}
use Rattle.frame_check.specs.declared.CheckMode.{CheckMode}
use Rattle.frame_check.specs.declared.CheckMode.TheVariants.{
  Validated,
  NotValidated,
  Ignored,
  Optional,
}
use Rattle.frame.specs.Types.{type_of}
use Rattle.frame.specs.ByteTwo.{counter_of}
use Rattle.frame.specs.Ids.{id_at}
use Rattle.frame.specs.declared.types.FrameType.{FrameType}
use Rattle.frame.specs.declared.types.FrameType.TheVariants.{PlainFup, PlainSync, SecuredFup, SecuredSync}

-- ---- "validated takes only secured frames with a right check byte; not validated takes only plain
-- frames; ignored takes both and does not look at the check byte; optional takes plain frames, and
-- secured ones with a right check byte"
abbrev pub takes_plain : CheckMode → Bool
takes_plain Validated = false
takes_plain NotValidated = true
takes_plain Ignored = true
takes_plain Optional = true

abbrev pub takes_secured : CheckMode → Bool → Bool
takes_secured Validated right = right
takes_secured NotValidated right = false
takes_secured Ignored right = true
takes_secured Optional right = right

-- ---- the check byte "over bytes 2 to 7", as received, "and then the DataID that the list for this
-- kind of frame holds at the counter"
abbrev pub is_right : List ℕ → List ℕ → Bool
is_right list bytes = eqb (get_or bytes 1 0) (check_of (drop 2 bytes) (id_at list (counter_of (get_or bytes 2 0))))

abbrev pub judged : Option FrameType → CheckMode → DataIds → List ℕ → Bool
judged (Some PlainSync) mode ids bytes = takes_plain mode
judged (Some SecuredSync) mode ids bytes = takes_secured mode (is_right ids.sync bytes)
judged (Some PlainFup) mode ids bytes = takes_plain mode
judged (Some SecuredFup) mode ids bytes = takes_secured mode (is_right ids.fup bytes)
judged None mode ids bytes = false

abbrev pub is_taken : CheckMode → DataIds → List ℕ → Bool
is_taken mode ids bytes =
    cond (eqb (length bytes) 8) (judged (type_of (get_or bytes 0 0)) mode ids bytes) false
