-- Paper 02, request 5: what a frame under 6 changes, and one under 15: "such a SYNC becomes the last one, joins the row
-- and its reading is kept. This and the row set to 0 under 6 are the exceptions to 'state stays' and demand 1." Assumes
-- nothing.
use Rattle.std.specs.Prelude.{ℕ, ◌+◌, ◌<◌, ◌≡◌, ◌⊎◌, List, get_or}
use Rattle.clock.specs.declared.reading.VirtualLocalTime.{VirtualLocalTime}
use Rattle.frame.specs.ByteTwo.{counter_of}
use Rattle.domain.specs.declared.Domain.{Domain}
use Rattle.domain.specs.declared.LastSync.TheVariants.{Seen}
use Rattle.domain.specs.Fields.{with_last}
use Rattle.domain.specs.Records.{record_at}
use Rattle.slave_counter.specs.declared.CounterVerdict.{CounterVerdict}
use Rattle.slave_counter.specs.declared.CounterVerdict.TheVariants.{Free, Good}
use Rattle.slave_counter.specs.Counter.{verdict_of}
use Rattle.slave_counter.specs.Row.{row_of, with_row, row_refused}
use Rattle.node.specs.declared.Node.{Node}
use Rattle.node.specs.Store.{stored_in}
use Rattle.node.specs.Frame.{addressed_by}
use Rattle.node_call.specs.Calls.{Call, frame, read, set, cycle, confirm, answer_to, number_in}

-- ---- the record of the domain that the bytes name, and what its check says of the counter in byte 2
abbrev pub named : Node → (bytes : List ℕ) → Domain
named n bytes = record_at n.domains (addressed_by bytes)

abbrev pub verdict_in : Node → VirtualLocalTime → (bytes : List ℕ) → CounterVerdict
verdict_in n t bytes =
    let d = named n bytes in
    verdict_of d.settings.jump_width d.settings.loss_time d.last (counter_of (get_or bytes 2 0)) t

-- ---- 6: "a refused counter during the row sets it to 0", and a row that is complete stays. All else stays: the SYNC
-- accepted last, its reading, and the kept one.
abbrev pub after_six : Node → (bytes : List ℕ) → Node
after_six n bytes =
    let d = named n bytes in
    let row = row_refused d.settings.hysteresis (row_of d.last) in
    stored_in n (addressed_by bytes) (with_last d (with_row d.last row)) n.kept

-- ---- 15: "such a SYNC becomes the last one, joins the row and its reading is kept". All else stays: the base, and a
-- pair that is open.
abbrev pub after_fifteen : Node → VirtualLocalTime → (bytes : List ℕ) (row : ℕ) → Node
after_fifteen n t bytes row =
    stored_in n (addressed_by bytes) (with_last (named n bytes) (Seen (counter_of (get_or bytes 2 0)) row t)) t

-- ---- The row is not complete. It is 0 where "the counter was unknown or forgotten", else one more.
pub record JoinedRow (n : Node) (t : VirtualLocalTime) (bytes : List ℕ) (after : Node) : Type 0 where
  pub row : ℕ
  pub below : row < (named n bytes).settings.hysteresis
  pub counted :
      ((verdict_in n t bytes ≡ Free) × (row ≡ 0))
      ⊎ ((verdict_in n t bytes ≡ Good) × (row ≡ row_of (named n bytes).last + 1))
  pub is : after ≡ after_fifteen n t bytes row

-- ---- the call is answered by one of the two; it is a frame call
abbrev pub IsExcepted : Node → Call → Type 0
IsExcepted n c = (number_in (answer_to n c) ≡ 6) ⊎ (number_in (answer_to n c) ≡ 15)

abbrev pub IsFrame : Call → Type 0
IsFrame (frame t bytes) = Unit {0}
IsFrame (read domain t) = ⊥
IsFrame (set domain t seconds nanoseconds) = ⊥
IsFrame (cycle t out) = ⊥
IsFrame (confirm domain t counter out) = ⊥

-- ---- "H 0 is today's rule": H of the domain that a frame names is 0
abbrev pub HZero : Node → Call → Type 0
HZero n (frame t bytes) = (named n bytes).settings.hysteresis ≡ 0
HZero n (read domain t) = Unit {0}
HZero n (set domain t seconds nanoseconds) = Unit {0}
HZero n (cycle t out) = Unit {0}
HZero n (confirm domain t counter out) = Unit {0}
