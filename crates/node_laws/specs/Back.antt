-- Paper 01: the frames that a node writes and those that it accepts, and demand 2 for them: "What a master writes is
-- read back as the same values, and an accepted frame with a right check byte, if it has one, and zero reserved bits is
-- written back from its values byte for byte." Assumes nothing.
use Rattle.std.specs.Prelude.{ℕ, ◌<◌, ◌≡◌, true, List, [], ◌∷◌, ◌++◌, length, get_or, Ok, Some}
use Rattle.clock.specs.declared.reading.VirtualLocalTime.{VirtualLocalTime}
use Rattle.frame.specs.declared.data_ids.DataIds.{DataIds}
use Rattle.frame.specs.declared.values.Sync.{Sync}
use Rattle.frame.specs.declared.values.Frame.{Frame}
use Rattle.frame.specs.declared.values.Frame.TheVariants.{Sync as sync}
use Rattle.frame.specs.Types.{type_of}
use Rattle.frame_read.specs.Read.{read_of}
use Rattle.frame_write.specs.Write.{bytes_of}
use Rattle.frame_laws.specs.RoundTrip.{AreBytes, zero_reserved, right_if_secured}
use Rattle.settings.specs.Node.{places}
use Rattle.domain.specs.declared.Domain.{Domain}
use Rattle.master_send.specs.Send.{send_of}
use Rattle.domain.specs.Records.{record_at}
use Rattle.node.specs.declared.Node.{Node}
use Rattle.node.specs.Frame.{addressed_by}
use Rattle.node_call.specs.Calls.{frame as frame_call, answer_to, number_in}

-- ---- frames one after another; eight bytes
abbrev pub joined : List (List ℕ) → List ℕ
joined [] = []
joined (frame ∷ rest) = frame ++ joined rest

abbrev pub IsEight : List ℕ → Type 0
IsEight frame = length frame ≡ 8

-- ---- a frame that the record at some place sent, with values that are read back
pub record SyncBack (ds : List Domain) (t : VirtualLocalTime) (frame : List ℕ) : Type 0 where
  pub place : ℕ
  pub values : Sync
  pub sent : (send_of (record_at ds place) t).answer ≡ Some values
  pub bytes : frame ≡ bytes_of (record_at ds place).settings.ids (sync values)
  pub back : read_of frame ≡ Ok (sync values)

-- ---- what holds of the frame that a record sends, if it sends one
abbrev pub OfSent : (List ℕ → Type 0) → VirtualLocalTime → List Domain → Type 0
OfSent P t ds =
    (i : ℕ) → i < places → (values : Sync) → (send_of (record_at ds i) t).answer ≡ Some values →
    P (bytes_of (record_at ds i).settings.ids (sync values))

-- ---- bytes that read as values, and are written back from them by their domain's Data-IDs
pub record FrameBack (ids : DataIds) (bytes : List ℕ) : Type 0 where
  pub values : Frame
  pub read : read_of bytes ≡ Ok values
  pub back :
      zero_reserved (type_of (get_or bytes 0 0)) bytes ≡ true →
      right_if_secured (type_of (get_or bytes 0 0)) ids bytes ≡ true →
      bytes_of ids values ≡ bytes

-- ---- so each frame that is accepted
abbrev pub AcceptedBack : Node → VirtualLocalTime → List ℕ → Type 0
AcceptedBack n t bytes =
    AreBytes bytes → number_in (answer_to n (frame_call t bytes)) ≡ 0 →
    FrameBack (record_at n.domains (addressed_by bytes)).settings.ids bytes
