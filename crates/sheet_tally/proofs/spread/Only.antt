-- No two results satisfy the promise of `Spread::with`. No contract cites this file. Assumes nothing.
use mathlib.Core.Path.{◌≡◌}
use Rattle.std.specs.Prelude.{Option}
use lib.IntN.{ℤ}
use Rattle.promise.specs.Only.{OnlyOne}
use Rattle.promise.proofs.Laws.{equation_only}
use Rattle.sheet_tally.specs.declared.spread.Spread.{Spread}
use Rattle.sheet_tally.specs.Spread.{spread_with}

pub with_only : (s : Option Spread) (d : ℤ) → OnlyOne (λ (r : Spread). r ≡ spread_with s d)
with_only s d = equation_only (spread_with s d)
