-- Paper 01: the nodes that there are: those of `new`, refused or not, and those after any call, refused
-- or not. Assumes nothing.
use Rattle.std.specs.Prelude.{ℕ, ◌^◌, ◌<◌, ◌≡◌, Bool, true, ◌&&◌, List, [], ◌∷◌, eqb, length}
use Rattle.frame.specs.declared.data_ids.DataIds.{DataIds}
use Rattle.frame.specs.ByteTwo.{counters}
use Rattle.settings.specs.declared.domain_settings.DomainSettings.{DomainSettings}
use Rattle.settings.specs.declared.node_settings.NodeSettings.{NodeSettings}
use Rattle.frame_laws.specs.RoundTrip.{AreBytes}
use Rattle.settings.specs.Node.{places}
use Rattle.node.specs.declared.Node.{Node}
use Rattle.node.specs.New.{new_of}
use Rattle.node_call.specs.Calls.{Call, frame, read, set, cycle, confirm, node_after}

-- ---- what the types of the arguments say: bytes below 256, seconds of 32 bits
abbrev pub IsCall : Call → Type 0
IsCall (frame t bytes) = AreBytes bytes
IsCall (read domain t) = Unit {0}
IsCall (set domain t seconds nanoseconds) = seconds < 2 ^ 32
IsCall (cycle t out) = Unit {0}
IsCall (confirm domain t counter out) = Unit {0}

abbrev pub AreCalls : List Call → Type 0
AreCalls [] = Unit {0}
AreCalls (c ∷ rest) = IsCall c × AreCalls rest

-- ---- sixteen settings, each with two lists of sixteen DataIDs
abbrev pub are_ids : DataIds → Bool
are_ids ids = eqb (length ids.sync) counters && eqb (length ids.fup) counters

abbrev pub all_ids : List DomainSettings → Bool
all_ids [] = true
all_ids (s ∷ rest) = are_ids s.ids && all_ids rest

abbrev pub IsSettings : NodeSettings → Type 0
IsSettings s = (eqb (length s.domains) places && all_ids s.domains) ≡ true

pub data Reachable : Node → Type 0 where
  new : (s : NodeSettings) → IsSettings s → Reachable (new_of s).node
  after : (n : Node) → Reachable n → (c : Call) → IsCall c → Reachable (node_after n c)
