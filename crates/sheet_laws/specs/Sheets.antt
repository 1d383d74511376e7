-- Paper 02, request 13: what is proved of the sheet. Each statement is of any node and any calls, and of the sheet that
-- they make of an empty one; where a count is in it, of fewer than 2^64 calls. Assumes nothing.
use Rattle.std.specs.Prelude.{ℕ, ◌^◌, ◌<◌, ◌≡◌, List, [], ℤ, length, get_or, Some, None}
use Rattle.settings.specs.Node.{places}
use Rattle.node.specs.declared.Node.{Node}
use Rattle.node_call.specs.Calls.{Call, node_after_all}
use Rattle.node_laws.specs.Leaps.{moves_in}
use Rattle.sheet_sum.specs.Sum.{total, sum_of}
use Rattle.sheet_tally.specs.declared.Tally.{Tally}
use Rattle.sheet_tally.specs.Tally.{columns}
use Rattle.sheet_tally.specs.Sheet.{tally_at, no_sheet}
use Rattle.sheet_laws.specs.Calls.{sheet_after}
use Rattle.sheet_laws.specs.Heard.{heard_in, count_in, IsLeast, IsGreatest}
use Rattle.sheet_laws.specs.Totals.{printed_count}

abbrev pub tally_in : (i : ℕ) → Node → List Call → Tally
tally_in i n cs = tally_at (sheet_after n no_sheet cs).tallies i

-- ---- "the counts add up to the whole records read": those of the lines that are printed, and the closing line's
abbrev pub CountsAddUp : Type 0
CountsAddUp =
    (n : Node) (cs : List Call) → length cs < 2 ^ 64 →
    printed_count (node_after_all n cs) (sheet_after n no_sheet cs) ≡ length cs

-- ---- each count is how many answers to the domain's frames are of its column
abbrev pub SheetCounts : Type 0
SheetCounts =
    (i column : ℕ) (n : Node) (cs : List Call) → i < places → column < columns → length cs < 2 ^ 64 →
    get_or (tally_in i n cs).counts column 0 ≡ count_in column (heard_in i n cs)

-- ---- "the exact sum of all D"
abbrev pub SheetSum : Type 0
SheetSum =
    (i : ℕ) (n : Node) (cs : List Call) → i < places → length cs < 2 ^ 64 →
    sum_of (tally_in i n cs).sum ≡ total (moves_in i n cs)

-- ---- "least and greatest D"; none is said where there is no D
abbrev pub SheetLeast : Type 0
SheetLeast =
    (i : ℕ) (n : Node) (cs : List Call) (least greatest : ℤ) → i < places →
    (tally_in i n cs).spread ≡ Some (record { least = least; greatest = greatest }) → IsLeast least (moves_in i n cs)

abbrev pub SheetGreatest : Type 0
SheetGreatest =
    (i : ℕ) (n : Node) (cs : List Call) (least greatest : ℤ) → i < places →
    (tally_in i n cs).spread ≡ Some (record { least = least; greatest = greatest }) → IsGreatest greatest (moves_in i n cs)

abbrev pub SheetNone : Type 0
SheetNone =
    (i : ℕ) (n : Node) (cs : List Call) → i < places →
    ((tally_in i n cs).spread ≡ None → moves_in i n cs ≡ []) × (moves_in i n cs ≡ [] → (tally_in i n cs).spread ≡ None)
