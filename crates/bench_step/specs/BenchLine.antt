-- Paper 01, "Bench program": the line of an answer. Assumes nothing.
use Rattle.std.specs.Prelude.{ℕ, zero, suc, List, [], ◌++◌, Err, Ok}
use Rattle.text.specs.Text.{hex_of, decimal}
use Rattle.text.specs.Lines.{blank}
use Rattle.node_call.specs.declared.CallAnswer.{CallAnswer}
use Rattle.node_call.specs.declared.CallAnswer.TheVariants.{Frame, Read, Set, Cycle, Confirm}
use Rattle.node_call.specs.Calls.{call_number}
use Rattle.bench_record.specs.Line.{shown_text, line_with}
use Rattle.call_read.specs.declared.Shown.{Shown}
use Rattle.frame.specs.declared.values.Fup.{Fup}
use Rattle.refusal.specs.Numbers.{Outcome}

-- ---- "on success kind 2 adds seconds, a point, nine digits, and the status as two hex digits"
abbrev pub bench_read : Outcome Shown → List ℕ
bench_read (Ok shown) = shown_text shown
bench_read (Err refusal) = []

-- ---- "kind 4 the frame count and the frames"; with S 1 there is one frame or none
abbrev pub frames_text : (count : ℕ) → (sent : List ℕ) → List ℕ
frames_text zero sent = []
frames_text (suc count) sent = blank ++ hex_of sent

abbrev pub bench_cycle : Outcome ℕ → (sent : List ℕ) → List ℕ
bench_cycle (Ok count) sent = blank ++ decimal count ++ frames_text count sent
bench_cycle (Err refusal) sent = []

-- ---- "kind 5 the frame"
abbrev pub bench_confirm : Outcome Fup → (sent : List ℕ) → List ℕ
bench_confirm (Ok fup) sent = blank ++ hex_of sent
bench_confirm (Err refusal) sent = []

abbrev pub bench_values : CallAnswer → (sent : List ℕ) → List ℕ
bench_values (Frame answer) sent = []
bench_values (Read answer) sent = bench_read answer
bench_values (Set answer) sent = []
bench_values (Cycle answer) sent = bench_cycle answer sent
bench_values (Confirm answer) sent = bench_confirm answer sent

abbrev pub bench_line : (item : ℕ) → CallAnswer → (sent : List ℕ) → List ℕ
bench_line item answer sent = line_with item (call_number answer) (bench_values answer sent)
