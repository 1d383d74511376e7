-- How many bytes a line has at most. No contract cites this file.
--   shown_fits   the time and the status
--   with_fits    a line, by what its values have
-- Assumes nothing.
use Prim.Native.Nat.{ℕ, ◌+◌, ◌≤◌}
use mathlib.Core.List.{List, ◌++◌}
use native.Mathlib.Nat.{le_refl}
use lib.ListN.{length}
use Rattle.text.specs.Text.{hex_byte}
use Rattle.text.specs.Lines.{blank, newline, answer_text, time_text}
use Rattle.text.proofs.Lengths.{append_fits}
use Rattle.text.proofs.lines.Fits.{time_fits, answer_fits}
use Rattle.call_read.specs.declared.Shown.{Shown}
use Rattle.bench_record.specs.Line.{shown_text, line_with}

pub shown_fits : (shown : Shown) → length (shown_text shown) ≤ 34
shown_fits shown =
    append_fits (blank ++ time_text shown.time ++ blank) (hex_byte shown.status)
    (append_fits (blank ++ time_text shown.time) blank
    (append_fits blank (time_text shown.time) (le_refl 1) (time_fits shown.time))
    (le_refl 1))
    (le_refl 2)

pub with_fits :
    (item number : ℕ) (values : List ℕ) {most : ℕ} → length values ≤ most →
    length (line_with item number values) ≤ 41 + most + 1
with_fits item number values h =
    append_fits (answer_text item number ++ values) newline
    (append_fits (answer_text item number) values (answer_fits item number) h)
    (le_refl 1)
