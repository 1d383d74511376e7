-- Calls that meet the hypotheses of the laws, computed: six frames of the bench's slave, three SYNCs with their FUPs.
-- No contract cites this file.
--   moves_met    two D
--   spread_met   the least D is -5 and the greatest 7
--   sum_met      their sum is 2
--   line_met     and the sheet is `1 3 3 0 0 0 0 0 -5 7 2` and `other 0`
-- Assumes nothing.
use Prim.Native.Nat.{ℕ}
use mathlib.Core.Path.{◌≡◌, refl}
use mathlib.Core.List.{List, [], ◌∷◌}
use lib.IntN.{pos, negsuc}
use Rattle.std.specs.Prelude.{Some}
use Rattle.clock.specs.declared.reading.VirtualLocalTime.{VirtualLocalTime}
use Rattle.text.specs.Text.{spelled}
use Rattle.bench_settings.specs.Bench.{bench_with}
use Rattle.node.specs.declared.Node.{Node}
use Rattle.node.specs.New.{new_of}
use Rattle.node_call.specs.Calls.{Call, frame, node_after_all}
use Rattle.node_laws.specs.Leaps.{moves_in}
use Rattle.sheet_sum.specs.Sum.{sum_of}
use Rattle.sheet_tally.specs.Sheet.{no_sheet}
use Rattle.sheet_line.specs.Line.{sheet_text}
use Rattle.sheet_laws.specs.Calls.{sheet_after}
use Rattle.sheet_laws.specs.Sheets.{tally_in}

abbrev at : ℕ → VirtualLocalTime
at t = record { 0 = t }

abbrev bench : Node
bench = (new_of (bench_with 2)).node

abbrev calls : List Call
calls =
    frame (at 1000000000) (0x10 ∷ 0 ∷ 0x10 ∷ 0 ∷ 0 ∷ 0 ∷ 0 ∷ 0x64 ∷ [])
    ∷ frame (at 1000000001) (0x18 ∷ 0 ∷ 0x10 ∷ 0 ∷ 0 ∷ 0 ∷ 0 ∷ 0 ∷ [])
    ∷ frame (at 2000000000) (0x10 ∷ 0 ∷ 0x11 ∷ 0 ∷ 0 ∷ 0 ∷ 0 ∷ 0x64 ∷ [])
    ∷ frame (at 2000000001) (0x18 ∷ 0 ∷ 0x11 ∷ 0 ∷ 0x3B ∷ 0x9A ∷ 0xC9 ∷ 0xFB ∷ [])
    ∷ frame (at 3000000000) (0x10 ∷ 0 ∷ 0x12 ∷ 0 ∷ 0 ∷ 0 ∷ 0 ∷ 0x66 ∷ [])
    ∷ frame (at 3000000001) (0x18 ∷ 0 ∷ 0x12 ∷ 0 ∷ 0 ∷ 0 ∷ 0 ∷ 2 ∷ [])
    ∷ []

moves_met : moves_in 1 bench calls ≡ negsuc 4 ∷ pos 7 ∷ []
moves_met = refl

spread_met : (tally_in 1 bench calls).spread ≡ Some (record { least = negsuc 4; greatest = pos 7 })
spread_met = refl

sum_met : sum_of (tally_in 1 bench calls).sum ≡ pos 2
sum_met = refl

-- ---- the text, in bytes
abbrev printed : List ℕ
printed =
    49 ∷ 32 ∷ 51 ∷ 32 ∷ 51 ∷ 32 ∷ 48 ∷ 32 ∷ 48 ∷ 32 ∷ 48 ∷ 32 ∷ 48 ∷ 32 ∷ 48 ∷ 32 ∷ 45 ∷ 53 ∷ 32 ∷ 55 ∷ 32 ∷
    50 ∷ 10 ∷ 111 ∷ 116 ∷ 104 ∷ 101 ∷ 114 ∷ 32 ∷ 48 ∷ 10 ∷ []

line_met : sheet_text (node_after_all bench calls) (sheet_after bench no_sheet calls) ≡ printed
unfolding spelled
line_met = refl
