-- A sheet that a function is given has sixteen tallies: what the layout of its type says.
--   sixteen     so many
--   looked_up   the tally that the code finds at a place of a domain is `tally_at`'s
-- Assumes nothing.
use Prim.Native.Nat.{ℕ, ◌<◌}
use mathlib.Core.Path.{◌≡◌}
use mathlib.Core.List.{List}
use native.Mathlib.Omega.{arith}
use lib.ListN.{length, get_or}
use mir.Val.{Val}
use denote.Laws.{Is}
use denote.Struct.Laws as laws
use Rattle.promise.proofs.Lists.{get_d_any}
use Rattle.settings.specs.Node.{places}
use Rattle.sheet_tally.specs.declared.Tally.{Tally}
use Rattle.sheet_tally.specs.declared.sheet.Sheet.{Sheet}
use Rattle.sheet_tally.specs.Sheet.{tally_at}
use Rattle.sheet_tally.specs.contracts.sheet.Sheet as declared
use Rattle.sheet_tally.proofs.sheet.Sheet.TheLaws as declared_laws

pub sixteen : (s : Sheet) (vs : List Val) → Is declared.the_row s vs → length s.tallies ≡ places
sixteen s vs p =
    (laws.owed declared.the_type declared_laws.the_laws s vs p).0.1.0.1

pub looked_up :
    (s : Sheet) (vs : List Val) → Is declared.the_row s vs → (at : ℕ) (other : Tally) → at < places →
    get_or s.tallies at other ≡ tally_at s.tallies at
looked_up s vs p at other h = get_d_any s.tallies at other _ (omega (arith, h, sixteen s vs p))
