-- What a sheet says of a domain. No contract cites this file.
--   sheet_counts                  each count is how many answers are of its column
--   sheet_sum                     the sum is that of all D
--   sheet_least, sheet_greatest   the least and the greatest D are those of all D
--   sheet_none                    and they are none exactly where there is no D
-- Assumes nothing.
use Prim.Native.Nat.{ℕ, ◌<◌}
use mathlib.Core.Path.{◌≡◌, refl, sym, ap, ◌∙◌}
use mathlib.Core.List.{List}
use native.Mathlib.Omega.{arith}
use lib.IntN.{ℤ}
use lib.ListN.{get_or, get_or-replicate}
use Rattle.std.specs.Prelude.{None}
use Rattle.settings.specs.Node.{places}
use Rattle.node.specs.declared.Node.{Node}
use Rattle.node_call.specs.Calls.{Call}
use Rattle.node_laws.specs.Leaps.{moves_in}
use Rattle.sheet_sum.specs.Sum.{no_sum, sum_with_all, sum_of}
use Rattle.sheet_sum.proofs.Sums.{sum_exact}
use Rattle.sheet_tally.specs.declared.Tally.{Tally}
use Rattle.sheet_tally.specs.Tally.{columns, no_tally}
use Rattle.sheet_tally.specs.Sheet.{no_sheet}
use Rattle.sheet_laws.specs.Heard.{heard_in}
use Rattle.sheet_laws.specs.Sheets.{tally_in, SheetCounts, SheetSum, SheetLeast, SheetGreatest, SheetNone}
use Rattle.sheet_laws.proofs.Tally.{tally_all, spread_all, all_counts, all_sum, all_spread}
use Rattle.sheet_laws.proofs.Spreads.{least_of, greatest_of, none_of}
use Rattle.sheet_laws.proofs.Heard.{heard_tally, heard_moves, heard_few, moves_few, moves_within}

module _ (i : ℕ) (n : Node) (cs : List Call) (below : i < places) where
  heard : tally_in i n cs ≡ tally_all no_tally (heard_in i n cs)
  heard =
      heard_tally i n no_sheet cs refl
      ∙ ap (λ (t : Tally). tally_all t (heard_in i n cs)) (get_or-replicate places i no_tally no_tally below)

  spread : (tally_in i n cs).spread ≡ spread_all None (moves_in i n cs)
  spread =
      ap (λ (t : Tally). t.spread) heard
      ∙ all_spread no_tally (heard_in i n cs)
      ∙ ap (spread_all None) (heard_moves i n cs)

pub sheet_counts : SheetCounts
sheet_counts i column n cs below is few =
    let zero-there = get_or-replicate {A = ℕ} columns column 0 0 is in
    let all = all_counts column no_tally (heard_in i n cs) refl is (omega (arith, zero-there, heard_few i n cs)) in
    ap (λ (t : Tally). get_or t.counts column 0) (heard i n cs below) ∙ omega (arith, all, zero-there)

pub sheet_sum : SheetSum
sheet_sum i n cs below few =
    ap (λ (t : Tally). sum_of t.sum) (heard i n cs below)
    ∙ ap sum_of (all_sum no_tally (heard_in i n cs))
    ∙ ap (λ (ds : List ℤ). sum_of (sum_with_all no_sum ds)) (heard_moves i n cs)
    ∙ sum_exact (moves_in i n cs) (moves_within i n cs) (omega (arith, moves_few i n cs))

pub sheet_least : SheetLeast
sheet_least i n cs least greatest below e =
    least_of (moves_in i n cs) least greatest (sym (spread i n cs below) ∙ e)

pub sheet_greatest : SheetGreatest
sheet_greatest i n cs least greatest below e =
    greatest_of (moves_in i n cs) least greatest (sym (spread i n cs below) ∙ e)

pub sheet_none : SheetNone
sheet_none i n cs below = (
  λ e. (none_of (moves_in i n cs)).0 (sym (spread i n cs below) ∙ e),
  λ e. spread i n cs below ∙ (none_of (moves_in i n cs)).1 e,
)
