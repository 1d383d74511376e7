-- Paper 01, "Refusal numbers": "A refused call returns the number and zeros; state and lent bytes stay." What 6 and 15
-- change of the state is in `Excepted`. Assumes nothing.
use Rattle.std.specs.Prelude.{ℕ, ◌≡◌}
use Rattle.call_read.specs.declared.Shown.{Shown}
use Rattle.node.specs.declared.Node.{Node}
use Rattle.node_call.specs.Calls.{
  Call,
  frame,
  read,
  set,
  cycle,
  confirm,
  Answer,
  numbered,
  shows,
  sends,
  follows,
  answer_to,
  number_in,
}

-- ---- the call is refused: its number is not 0
abbrev pub IsRefused : Node → Call → Type 0
IsRefused n c = number_in (answer_to n c) ≡ 0 → ⊥

-- ---- what a refused read shows
abbrev pub zeros : Shown
zeros =
    record {
      time = record { 0 = 0; 1 = 0 };
      status = 0;
      user = record { 0 = 0; 1 = 0; 2 = 0 };
      updates = 0;
    }

-- ---- The answer to a call that is refused with a number: no frame is counted, and the lent bytes are as they were.
abbrev pub refused_by : (number : ℕ) → Call → Answer
refused_by number (frame t bytes) = numbered number
refused_by number (read domain t) = shows number zeros
refused_by number (set domain t seconds nanoseconds) = numbered number
refused_by number (cycle t out) = sends number 0 out
refused_by number (confirm domain t counter out) = follows number out
