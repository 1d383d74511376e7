-- Paper 02, request 13: the sheet of all domains. Assumes nothing.
use Rattle.std.specs.Prelude.{ℕ, ◌%◌, List, get_or, set, replicate, Option, Some, None}
use Rattle.text.specs.Pieces.{next_item}
use Rattle.settings.specs.Node.{places}
use Rattle.sheet_tally.specs.declared.Tally.{Tally}
use Rattle.sheet_tally.specs.declared.entry.Entry.{Entry}
use Rattle.sheet_tally.specs.declared.sheet.Sheet.{Sheet}
use Rattle.sheet_tally.specs.Tally.{no_tally, counted_of}

abbrev pub tally_at : List Tally → (at : ℕ) → Tally
tally_at tallies at = get_or tallies at no_tally

abbrev pub no_sheet : Sheet
no_sheet = record { tallies = replicate places no_tally; other = 0 }

-- ---- A record goes to its domain's tally, or is counted among the others.
abbrev pub sheet_with : Sheet → Option Entry → Sheet
sheet_with s (Some entry) =
    let at = entry.named % places in
    record { tallies = set s.tallies at (counted_of (tally_at s.tallies at) entry.answer); other = s.other }
sheet_with s None = record { tallies = s.tallies; other = next_item s.other }
