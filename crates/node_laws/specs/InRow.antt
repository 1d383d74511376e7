-- Paper 02, request 5, over the calls of a node from `new` on: "after the counter was unknown or forgotten, H further
-- SYNC frames in a row with a good counter must come before any pair may be taken". What came before a FUP that is
-- taken is told by the answers that the SYNCs before it got. And what 15 leaves open. Assumes nothing.
use Rattle.std.specs.Prelude.{ℕ, zero, suc, ◌≤◌, ◌<◌, ◌≡◌, cond, ◌⊎◌, List, [], ◌∷◌, ◌++◌, eqb, Err, Ok, Result, Some}
use Rattle.clock.specs.declared.reading.VirtualLocalTime.{VirtualLocalTime}
use Rattle.clock.specs.Reading.{span_of}
use Rattle.frame.specs.declared.values.Sync.{Sync}
use Rattle.frame.specs.declared.values.Fup.{Fup}
use Rattle.frame.specs.declared.values.Frame.TheVariants.{Sync as sync, Fup as fup}
use Rattle.frame_read.specs.Read.{read_of}
use Rattle.frame_laws.specs.RoundTrip.{AreBytes}
use Rattle.settings.specs.declared.domain_settings.DomainSettings.{DomainSettings}
use Rattle.settings.specs.declared.node_settings.NodeSettings.{NodeSettings}
use Rattle.domain.specs.declared.Pair.{Pair}
use Rattle.slave_counter.specs.Counter.{jump_of}
use Rattle.node.specs.declared.Node.{Node}
use Rattle.node.specs.New.{new_of}
use Rattle.node.specs.Frame.{addressed_by}
use Rattle.node_call.specs.Calls.{Call, frame, read, set, cycle, confirm, node_after, node_after_all, answer_to, number_in}
use Rattle.node_laws.specs.Reachable.{AreCalls, IsSettings, Reachable}
use Rattle.node_laws.specs.Excepted.{named}
use Rattle.frame.specs.declared.values.Frame.{Frame}
use Rattle.frame_read.specs.declared.NoFrame.{NoFrame}
use Rattle.frame_read.specs.declared.NoFrame.TheVariants.{LengthNot8, NoSuchType}

-- ---- A SYNC that a domain heard: one that became the last, answered 0 or 15; or one refused by 6.
pub data Heard : Type 0 where
  accepted : (counter : ℕ) (at : VirtualLocalTime) → Heard
  refused : Heard

abbrev pub sync_heard : VirtualLocalTime → Sync → (number : ℕ) → List Heard
sync_heard t s number =
    cond (eqb number 6) (refused ∷ [])
    (cond (eqb number 0) (accepted s.counter t ∷ [])
    (cond (eqb number 15) (accepted s.counter t ∷ []) []))

abbrev pub heard_of : VirtualLocalTime → Result Frame NoFrame → (number : ℕ) → List Heard
heard_of t (Ok (sync s)) number = sync_heard t s number
heard_of t (Ok (fup f)) number = []
heard_of t (Err LengthNot8) number = []
heard_of t (Err NoSuchType) number = []

-- ---- Those of the domain at place i, of a call; of calls one after another, the newest first, before older ones.
abbrev pub heard_by : (i : ℕ) → Node → Call → List Heard
heard_by i n (frame t bytes) =
    cond (eqb (addressed_by bytes) i) (heard_of t (read_of bytes) (number_in (answer_to n (frame t bytes)))) []
heard_by i n (read domain t) = []
heard_by i n (set domain t seconds nanoseconds) = []
heard_by i n (cycle t out) = []
heard_by i n (confirm domain t counter out) = []

abbrev pub heard_in : (i : ℕ) → Node → List Call → (older : List Heard) → List Heard
heard_in i n [] older = older
heard_in i n (c ∷ rest) older = heard_in i (node_after n c) rest (heard_by i n c ++ older)

-- ---- "a good counter": 1 to J after that of the SYNC accepted before it, which is at most L ago.
abbrev pub IsNext : (j l counter : ℕ) → VirtualLocalTime → (older : List Heard) → Type 0
IsNext j l counter t [] = ⊥
IsNext j l counter t (accepted last at ∷ older) =
    (span_of at t ≤ l) × (1 ≤ jump_of last counter) × (jump_of last counter ≤ j)
IsNext j l counter t (refused ∷ older) = IsNext j l counter t older

-- ---- "H further SYNC frames in a row with a good counter": the newest H, none of them refused.
abbrev pub InARow : (j l h : ℕ) → List Heard → Type 0
InARow j l zero heard = Unit {0}
InARow j l (suc h) [] = ⊥
InARow j l (suc h) (accepted counter t ∷ older) = IsNext j l counter t older × InARow j l h older
InARow j l (suc h) (refused ∷ older) = ⊥

-- ---- Such a row has come, and the counter was not forgotten since. A counter that is refused later does not matter.
abbrev pub RowCame : (j l h : ℕ) → List Heard → Type 0
RowCame j l h [] = ⊥
RowCame j l h (accepted counter t ∷ older) =
    InARow j l h (accepted counter t ∷ older) ⊎ (IsNext j l counter t older × RowCame j l h older)
RowCame j l h (refused ∷ older) = RowCame j l h older

-- ---- The SYNC accepted last.
abbrev pub LastAccepted : (counter : ℕ) → VirtualLocalTime → List Heard → Type 0
LastAccepted counter at [] = ⊥
LastAccepted counter at (accepted last t ∷ older) = (last ≡ counter) × (t ≡ at)
LastAccepted counter at (refused ∷ older) = LastAccepted counter at older

-- ---- A FUP that is taken is that SYNC's, at most F after it, and with it, or before it, the row has come.
pub record AfterRow (s : DomainSettings) (t : VirtualLocalTime) (f : Fup) (heard : List Heard) : Type 0 where
  pub at : VirtualLocalTime
  pub last : LastAccepted f.counter at heard
  pub soon : span_of at t ≤ s.follow_up_time
  pub row : RowCame s.jump_width s.loss_time s.hysteresis heard

abbrev pub TakenInRow : Type 0
TakenInRow =
    (s : NodeSettings) → IsSettings s → (cs : List Call) → AreCalls cs →
    (t : VirtualLocalTime) (bytes : List ℕ) (f : Fup) → read_of bytes ≡ Ok (fup f) →
    let fresh = (new_of s).node in let n = node_after_all fresh cs in
    number_in (answer_to n (frame t bytes)) ≡ 0 →
    AfterRow (named n bytes).settings t f (heard_in (addressed_by bytes) fresh cs [])

-- ---- A pair that 15 leaves open is older than F already at the reading then kept, so that no FUP joins it.
abbrev pub StalePair : Type 0
StalePair =
    (n : Node) → Reachable n → (t : VirtualLocalTime) (bytes : List ℕ) → AreBytes bytes →
    number_in (answer_to n (frame t bytes)) ≡ 15 → (p : Pair) → let after = node_after n (frame t bytes) in
    (named after bytes).pairing ≡ Some p → (named after bytes).settings.follow_up_time < span_of p.at after.kept
