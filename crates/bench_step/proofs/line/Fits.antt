-- No line of the bench has more than 80 bytes, so that a buffer with that much room takes it whole. No contract
-- cites this file.
-- Assumes nothing.
use Rattle.std.specs.Prelude.{Err, Ok}
use Prim.Native.Nat.{ℕ, zero, suc, ◌≤◌}
use mathlib.Core.List.{List, ◌++◌}
use native.Mathlib.Nat.{le_refl}
use native.Mathlib.Omega.{arith}
use lib.ListN.{length}
use Rattle.text.specs.Text.{decimal, hex_of}
use Rattle.text.proofs.Lengths.{decimal_length, hex_length, append_fits}
use Rattle.text.specs.Lines.{blank}
use Rattle.node_call.specs.declared.CallAnswer.{CallAnswer}
use Rattle.node_call.specs.Calls.{call_number}
use Rattle.node_call.specs.declared.CallAnswer.TheVariants.{Frame, Read, Set, Cycle, Confirm}
use Rattle.bench_record.proofs.line.Fits.{shown_fits, with_fits}
use Rattle.bench_step.specs.BenchLine.{bench_read, frames_text, bench_cycle, bench_confirm, bench_values, bench_line}
use Rattle.call_read.specs.declared.Shown.{Shown}
use Rattle.frame.specs.declared.values.Fup.{Fup}
use Rattle.refusal.specs.Numbers.{Outcome}

frame_fits : (sent : List ℕ) → length sent ≤ 8 → length (blank ++ hex_of sent) ≤ 17
frame_fits sent h = append_fits blank (hex_of sent) {b = 16} (le_refl 1) (omega (arith, hex_length sent))

frames_fit : (count : ℕ) (sent : List ℕ) → length sent ≤ 8 → length (frames_text count sent) ≤ 17
frames_fit zero sent h = omega arith
frames_fit (suc count) sent h = frame_fits sent h

read_fits : (answer : Outcome Shown) → length (bench_read answer) ≤ 34
read_fits (Err refusal) = omega arith
read_fits (Ok shown) = shown_fits shown

cycle_fits : (answer : Outcome ℕ) (sent : List ℕ) → length sent ≤ 8 → length (bench_cycle answer sent) ≤ 38
cycle_fits (Err refusal) sent h = omega arith
cycle_fits (Ok count) sent h =
    append_fits (blank ++ decimal count) (frames_text count sent)
    (append_fits blank (decimal count) (le_refl 1) (decimal_length count))
    (frames_fit count sent h)

confirm_fits : (answer : Outcome Fup) (sent : List ℕ) → length sent ≤ 8 → length (bench_confirm answer sent) ≤ 17
confirm_fits (Err refusal) sent h = omega arith
confirm_fits (Ok fup) sent h = frame_fits sent h

values_fit : (answer : CallAnswer) (sent : List ℕ) → length sent ≤ 8 → length (bench_values answer sent) ≤ 38
values_fit (Frame answer) sent h = omega arith
values_fit (Read answer) sent h = omega (arith, read_fits answer)
values_fit (Set answer) sent h = omega arith
values_fit (Cycle answer) sent h = cycle_fits answer sent h
values_fit (Confirm answer) sent h = omega (arith, confirm_fits answer sent h)

pub line_fits :
    (item : ℕ) (answer : CallAnswer) (sent : List ℕ) → length sent ≤ 8 →
    length (bench_line item answer sent) ≤ 80
line_fits item answer sent h = with_fits item (call_number answer) (bench_values answer sent) (values_fit answer sent h)
