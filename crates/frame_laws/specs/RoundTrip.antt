-- Demand 2: "What a master writes is read back as the same values, and an accepted frame with a right
-- check byte, if it has one, and zero reserved bits is written back from its values byte for byte."
-- What the two laws of the round trip ask of values and of bytes. Assumes nothing.
use Rattle.std.specs.Prelude.{ℕ, ◌^◌, ◌<◌, Bool, true, List, [], ◌∷◌, ltb, get_or, None, Option, Some}
use Rattle.frame.specs.declared.data_ids.DataIds.{DataIds}
use Rattle.frame_check.specs.declared.CheckMode.{CheckMode}
use Rattle.frame.specs.declared.values.Protection.{Protection}
use Rattle.frame.specs.declared.values.Protection.TheVariants.{Plain, Secured}
use Rattle.frame.specs.ByteTwo.{counters}
use Rattle.frame.specs.declared.values.Sync.{Sync}
use Rattle.frame.specs.declared.values.Fup.{Fup}
use Rattle.frame.specs.declared.values.Frame.{Frame}
use Rattle.frame.specs.declared.values.Frame.TheVariants.{Sync as sync, Fup as fup}
use Rattle.frame_check.specs.Check.{is_right, takes_plain, takes_secured}
use Rattle.frame.specs.declared.types.FrameType.{FrameType}
use Rattle.frame.specs.declared.types.FrameType.TheVariants.{PlainFup, PlainSync, SecuredFup, SecuredSync}

-- ---- values that fit their bits
pub record SyncFits (s : Sync) : Type 0 where
  pub domain : s.domain < 16
  pub counter : s.counter < counters
  pub seconds : s.seconds < 2 ^ 32

pub record FupFits (f : Fup) : Type 0 where
  pub domain : f.domain < 16
  pub counter : f.counter < counters
  pub ovs : f.ovs < 4
  pub nanoseconds : f.nanoseconds < 2 ^ 32

abbrev pub FrameFits : Frame → Type 0
FrameFits (sync s) = SyncFits s
FrameFits (fup f) = FupFits f

-- ---- the mode takes frames of this kind, and "secured ones with a right check byte"
abbrev pub takes_kind : CheckMode → Protection → Bool
takes_kind mode (Plain user) = takes_plain mode
takes_kind mode Secured = takes_secured mode true

-- ---- bytes
abbrev pub AreBytes : List ℕ → Type 0
AreBytes [] = Unit {0}
AreBytes (byte ∷ rest) = (byte < 256) × AreBytes rest

-- ---- "zero reserved bits"
abbrev pub zero_reserved : Option FrameType → List ℕ → Bool
zero_reserved (Some PlainSync) bytes = true
zero_reserved (Some SecuredSync) bytes = true
zero_reserved (Some PlainFup) bytes = ltb (get_or bytes 3 0) 8
zero_reserved (Some SecuredFup) bytes = ltb (get_or bytes 3 0) 8
zero_reserved None bytes = true

-- ---- "a right check byte, if it has one"
abbrev pub right_if_secured : Option FrameType → DataIds → List ℕ → Bool
right_if_secured (Some PlainSync) ids bytes = true
right_if_secured (Some SecuredSync) ids bytes = is_right ids.sync bytes
right_if_secured (Some PlainFup) ids bytes = true
right_if_secured (Some SecuredFup) ids bytes = is_right ids.fup bytes
right_if_secured None ids bytes = true
