-- No line of the trial has more than 1,088 bytes, since no buffer has more than 512: a place with that much room
-- takes it whole. No contract cites this file.
-- Assumes nothing.
use Rattle.std.specs.Prelude.{Err, Ok, ⊤}
use Prim.Native.Nat.{ℕ, ◌≤◌}
use mathlib.Core.List.{List, [], ◌∷◌, ◌++◌}
use native.Mathlib.Nat.{le_refl, le_trans}
use native.Mathlib.Omega.{arith}
use lib.ListN.{length}
use Rattle.text.specs.Text.{decimal}
use Rattle.text.proofs.Lengths.{decimal_length, hex_length, append_fits}
use Rattle.text.specs.Lines.{blank}
use Rattle.node.specs.CycleAnswer.{cycle_count}
use Rattle.node_call.specs.declared.CallAnswer.{CallAnswer}
use Rattle.node_call.specs.Calls.{call_number}
use Rattle.node_call.specs.declared.CallAnswer.TheVariants.{Frame, Read, Set, Cycle, Confirm}
use Rattle.bench_record.specs.Line.{shown_text}
use Rattle.bench_record.proofs.line.Fits.{shown_fits, with_fits}
use Rattle.trial_step.specs.TrialLine.{
  user_text,
  trial_read,
  shown_buffer,
  buffer_text,
  trial_values,
  trial_line,
  queue_line,
}
use Rattle.call_read.specs.declared.Shown.{Shown}
use Rattle.refusal.specs.Numbers.{Outcome, outcome_number}

buffer_shown_fits : (buffer : List ℕ) → length buffer ≤ 512 → length (shown_buffer buffer) ≤ 1024
buffer_shown_fits [] h = omega arith
buffer_shown_fits (b ∷ bs) h = omega (arith, hex_length (b ∷ bs))

buffer_fits : (buffer : List ℕ) → length buffer ≤ 512 → length (buffer_text buffer) ≤ 1025
buffer_fits buffer h = append_fits blank (shown_buffer buffer) (le_refl 1) (buffer_shown_fits buffer h)

read_fits : (answer : Outcome Shown) → length (trial_read answer) ≤ 62
read_fits (Err refusal) = omega arith
read_fits (Ok shown) =
    append_fits (shown_text shown ++ blank ++ user_text shown.user ++ blank) (decimal shown.updates)
    (append_fits (shown_text shown ++ blank ++ user_text shown.user) blank
    (append_fits (shown_text shown ++ blank) (user_text shown.user)
    (append_fits (shown_text shown) blank (shown_fits shown) (le_refl 1))
    (le_refl 6))
    (le_refl 1))
    (decimal_length shown.updates)

values_fit : (answer : CallAnswer) (buffer : List ℕ) → length buffer ≤ 512 → length (trial_values answer buffer) ≤ 1046
values_fit (Frame answer) buffer h = omega arith
values_fit (Read answer) buffer h = omega (arith, read_fits answer)
values_fit (Set answer) buffer h = omega arith
values_fit (Cycle answer) buffer h =
    append_fits (blank ++ decimal (cycle_count answer)) (buffer_text buffer)
    (append_fits blank (decimal (cycle_count answer)) (le_refl 1) (decimal_length (cycle_count answer)))
    (buffer_fits buffer h)
values_fit (Confirm answer) buffer h = omega (arith, buffer_fits buffer h)

pub line_fits :
    (item : ℕ) (answer : CallAnswer) (buffer : List ℕ) → length buffer ≤ 512 →
    length (trial_line item answer buffer) ≤ 1088
line_fits item answer buffer h =
    with_fits item (call_number answer) (trial_values answer buffer) (values_fit answer buffer h)

pub queue_line_fits :
    (item : ℕ) (answer : Outcome ⊤) (buffer : List ℕ) → length buffer ≤ 512 →
    length (queue_line item answer buffer) ≤ 1088
queue_line_fits item answer buffer h =
    le_trans (with_fits item (outcome_number answer) (buffer_text buffer) (buffer_fits buffer h)) (omega arith)
