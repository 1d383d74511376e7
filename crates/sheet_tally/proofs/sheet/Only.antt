-- No two results satisfy the promise of F, as `F_only` for each public function F. No contract cites this file.
-- Assumes nothing.
use mathlib.Core.Path.{◌≡◌}
use Rattle.std.specs.Prelude.{Option}
use Rattle.promise.specs.Only.{OnlyOne}
use Rattle.promise.proofs.Laws.{equation_only}
use Rattle.sheet_tally.specs.declared.entry.Entry.{Entry}
use Rattle.sheet_tally.specs.declared.sheet.Sheet.{Sheet}
use Rattle.sheet_tally.specs.Sheet.{no_sheet, sheet_with}

pub new_only : OnlyOne (λ (r : Sheet). r ≡ no_sheet)
new_only = equation_only no_sheet

pub with_only : (s : Sheet) (entry : Option Entry) → OnlyOne (λ (r : Sheet). r ≡ sheet_with s entry)
with_only s entry = equation_only (sheet_with s entry)
