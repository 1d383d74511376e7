-- An item of the trial: a settings block, a queue, a frame on one record or any other call record, and its line.
-- Assumes nothing.
use Rattle.std.specs.Prelude.{ℕ, min, List, ◌++◌, get_or, take, replicate, ⊤}
use Rattle.text.specs.declared.Out.{Out}
use Rattle.text.specs.Fields.{pair_at, bytes_at}
use Rattle.node.specs.declared.Node.{Node}
use Rattle.node.specs.New.{new_of}
use Rattle.node_call.specs.declared.Request.{Request}
use Rattle.node_call.specs.declared.Request.TheVariants.{Frame, Read, Set, Cycle, Confirm}
use Rattle.bench_record.specs.declared.step.Step.{Step}
use Rattle.bench_record.specs.Record.{asked_by}
use Rattle.bench_record.specs.Step.{RecordStepped}
use Rattle.trial_step.specs.declared.item.Item.{Item}
use Rattle.trial_step.specs.declared.item.Item.TheVariants.{Settings, Queue, One, Record}
use Rattle.trial_step.specs.TrialLine.{trial_line, Numbered}
use Rattle.trial_step.specs.Queue.{QueueStepped}
use Rattle.trial_step.specs.One.{OneStepped}
use Rattle.trial_step.specs.Item.{item_of}
use Rattle.trial_step.specs.Block.{settings_of}
use Rattle.node.specs.declared.NodeStep.{NodeStep}
use Rattle.refusal.specs.Numbers.{Outcome, outcome_number}

-- ---- Kind 1: the domain byte is the frame's length, its bytes are the payload's and beyond eight zeros.
abbrev pub padded_frame : List ℕ → List ℕ
padded_frame bytes = bytes_at 8 bytes 12 ++ replicate 247 0

abbrev pub given_frame : List ℕ → List ℕ
given_frame bytes = take (get_or bytes 3 0) (padded_frame bytes)

-- ---- Kind 4: the first two payload bytes are the buffer's length; kind 5: bytes 1 and 2. Above 512 it counts as 512.
abbrev pub lent_length : Request → List ℕ → ℕ
lent_length (Frame t) bytes = 0
lent_length (Read domain t) bytes = 0
lent_length (Set domain t s ns) bytes = 0
lent_length (Cycle t) bytes = min (pair_at bytes 12) 512
lent_length (Confirm domain t counter) bytes = min (pair_at bytes 13) 512

-- ---- Lent buffers hold A5 before the call.
abbrev pub lent_buffer : (bytes : List ℕ) → Request → List ℕ
lent_buffer bytes q = replicate (lent_length q bytes) 0xA5

-- ---- The node that the settings give takes the place of the one before, also when refused.
abbrev pub renewed_by : List ℕ → NodeStep (Outcome ⊤)
renewed_by bytes = new_of (settings_of bytes)

abbrev pub Renewed : (item : ℕ) (bytes : List ℕ) (before : Out) → Step → Out → Type 0
Renewed item bytes before r after =
    let new = renewed_by bytes in Numbered new.node (outcome_number new.answer) item before r after

-- ---- An item by what it is.
abbrev pub ItemStepped :
    Item → Node → (item : ℕ) (bytes : List ℕ) (before : Out) → Step → Out → Type 0
ItemStepped Settings n item bytes before r after = Renewed item bytes before r after
ItemStepped Queue n item bytes before r after = QueueStepped n item bytes before r after
ItemStepped One n item bytes before r after = OneStepped n item bytes before r after
ItemStepped Record n item bytes before r after =
    RecordStepped (asked_by bytes) (trial_line item) (given_frame bytes) (lent_buffer bytes) n item before r after

abbrev pub TrialStepped : Node → (item : ℕ) (bytes : List ℕ) (before : Out) → Step → Out → Type 0
TrialStepped n item bytes before r after = ItemStepped (item_of bytes) n item bytes before r after
