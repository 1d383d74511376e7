-- Paper 01, "Bench program": what the lines of the bench and of the trial have in common. Assumes nothing.
use Rattle.std.specs.Prelude.{ℕ, List, ◌++◌}
use Rattle.text.specs.Text.{hex_byte}
use Rattle.text.specs.Lines.{blank, newline, answer_text, time_text}
use Rattle.call_read.specs.declared.Shown.{Shown}

-- ---- "seconds, a point, nine digits, and the status as two hex digits", a blank before each of the two
abbrev pub shown_text : Shown → List ℕ
shown_text shown = blank ++ time_text shown.time ++ blank ++ hex_byte shown.status

-- ---- "A line is the record's number from 1 and the answer", and the values that it adds.
abbrev pub line_with : (item number : ℕ) (values : List ℕ) → List ℕ
line_with item number values = answer_text item number ++ values ++ newline
