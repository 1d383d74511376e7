-- How many bytes the parts of a line have at most. No contract cites this file. Assumes nothing.
use Prim.Native.Nat.{ℕ, ◌≤◌}
use mathlib.Core.List.{◌++◌}
use native.Mathlib.Nat.{le_refl, le_of_eq}
use lib.ListN.{length}
use Rattle.clock.specs.declared.time.GlobalTime.{GlobalTime}
use Rattle.text.specs.Text.{decimal, digits}
use Rattle.text.proofs.Lengths.{decimal_length, digits_length, append_fits}
use Rattle.text.specs.Lines.{blank, point, answer_text, time_text}

pub time_fits : (g : GlobalTime) → length (time_text g) ≤ 30
time_fits g =
    append_fits (decimal g.0 ++ point) (digits 9 g.1)
    (append_fits (decimal g.0) point (decimal_length g.0) (le_refl 1))
    (le_of_eq (digits_length 9 g.1))

pub answer_fits : (item number : ℕ) → length (answer_text item number) ≤ 41
answer_fits item number =
    append_fits (decimal item ++ blank) (decimal number)
    (append_fits (decimal item) blank (decimal_length item) (le_refl 1))
    (decimal_length number)
