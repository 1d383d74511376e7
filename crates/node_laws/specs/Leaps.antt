-- Paper 02, request 3: what moves the leap of a domain. Assumes nothing.
use Rattle.std.specs.Prelude.{ℕ, ◌<◌, ◌≤◌, ◌≡◌, cond, List, [], ◌∷◌, ◌++◌, eqb, ℤ, length, Err, None, Ok, Option}
use Rattle.settings.specs.declared.domain_settings.DomainSettings.{DomainSettings}
use Rattle.domain.specs.Records.{record_at}
use Rattle.slave_update.specs.Row.{leap_of, Within, AllWithin, leap_after_all}
use Rattle.slave_status.specs.Status.{leap_bits}
use Rattle.node.specs.declared.Node.{Node}
use Rattle.node.specs.Frame.{addressed_by, node_frame_of}
use Rattle.node_call.specs.Calls.{Call, frame, read, set, cycle, confirm, node_after, node_after_all}
use Rattle.node_laws.specs.Good.{BaseSet}
use Rattle.domain.specs.declared.Leap.{Leap}
use Rattle.refusal.specs.Numbers.{Outcome}
use Rattle.slave_answer.specs.declared.Taken.{Taken}
use Rattle.slave_answer.specs.declared.Taken.TheVariants.{First, Opened, Updated}

-- ---- The D of an answer, if it is an update's; of a call, in the domain at place i; of calls one after another.
abbrev pub moves_of : Outcome Taken → List ℤ
moves_of (Ok Opened) = []
moves_of (Ok First) = []
moves_of (Ok (Updated d)) = d ∷ []
moves_of (Err refusal) = []

abbrev pub moves_by : (i : ℕ) → Node → Call → List ℤ
moves_by i n (frame t bytes) = cond (eqb (addressed_by bytes) i) (moves_of (node_frame_of n t bytes).answer) []
moves_by i n (read domain t) = []
moves_by i n (set domain t s ns) = []
moves_by i n (cycle t out) = []
moves_by i n (confirm domain t counter out) = []

abbrev pub moves_in : (i : ℕ) → Node → List Call → List ℤ
moves_in i n [] = []
moves_in i n (c ∷ rest) = moves_by i n c ++ moves_in i (node_after n c) rest

-- ---- The leap after updates by these D, by a domain's settings.
abbrev pub leap_by : DomainSettings → Option Leap → List ℤ → Option Leap
leap_by s = leap_after_all s.future_threshold s.past_threshold s.clear_count

-- ---- On any node, after any calls: the leap of a domain whose base is set is moved by its updates alone.
abbrev pub LeapFollows : Type 0
LeapFollows =
    (n : Node) (i : ℕ) (cs : List Call) → let d = record_at n.domains i in
    BaseSet d.base →
    (record_at (node_after_all n cs).domains i).leap ≡ leap_by d.settings d.leap (moves_in i n cs)

-- ---- After a leap by D and a row of updates within both thresholds, whatever other calls stand among them: the bit of
-- that leap shows while the row is shorter than the count, and none from then on.
pub record Leapt (n : Node) (i : ℕ) (cs : List Call) (before row : List ℤ) (d : ℤ) : Type 0 where
  pub set : BaseSet (record_at n.domains i).base
  pub moves : moves_in i n cs ≡ before ++ d ∷ row
  pub leap :
      let s = (record_at n.domains i).settings in Within s.future_threshold s.past_threshold d → ⊥
  pub within : let s = (record_at n.domains i).settings in AllWithin s.future_threshold s.past_threshold row

abbrev pub LeapShows : Type 0
LeapShows =
    (n : Node) (i : ℕ) (cs : List Call) (before row : List ℤ) (d : ℤ) → Leapt n i cs before row d →
    let s = (record_at n.domains i).settings in
    length row < s.clear_count →
    leap_bits (record_at (node_after_all n cs).domains i).leap
    ≡ leap_bits (leap_of s.future_threshold s.past_threshold d)

abbrev pub LeapGoes : Type 0
LeapGoes =
    (n : Node) (i : ℕ) (cs : List Call) (before row : List ℤ) (d : ℤ) → Leapt n i cs before row d →
    let s = (record_at n.domains i).settings in
    1 ≤ s.clear_count → s.clear_count ≤ length row → (record_at (node_after_all n cs).domains i).leap ≡ None
