-- Paper 02, request 13: "Refusals: as the bench prints them, before the sheet". Assumes nothing.
use Rattle.std.specs.Prelude.{ℕ, Bool, cond, List, [], ◌++◌, eqb}
use Rattle.text.specs.Lines.{bad_text, cut_text}
use Rattle.text.specs.Pieces.{next_item}
use Rattle.sheet_line.specs.Line.{sheet_text}
use Rattle.sheet_step.specs.declared.Account.{Account}

-- ---- The record after those that are read is bad, or cut where bytes are left.
abbrev pub refusal_text : (records : ℕ) (bad : Bool) (left : ℕ) → List ℕ
refusal_text records bad left =
    cond bad (bad_text (next_item records)) (cond (eqb left 0) [] (cut_text (next_item records)))

abbrev pub report_text : Account → (left : ℕ) → List ℕ
report_text a left = refusal_text a.records a.bad left ++ sheet_text a.node a.sheet
