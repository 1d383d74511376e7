-- `sheet_line::put_spread` meets its contract: the least D, then the greatest, then the sum. Assumes nothing.
use mathlib.Core.Path.{sym, ap}
use mir.Syntax.{w64}
use mir.ValLaws.{to_z-of_z}
use borrow.Author.Rules.{rules}
use Rattle.text.proofs.Wrote.{then, named}
use Rattle.sheet_line.specs.Signed.{signed_text, told_text}
use Rattle.sheet_line.specs.Line.{spread_text}
use Rattle.sheet_line.proofs.put_spread.Goals as goal

pub returns-in-Some : goal.returns-in-Some
returns-in-Some c =
    let least = to_z-of_z w64 c.in-Some.spread.least (search rules) in
    let greatest = to_z-of_z w64 c.in-Some.spread.greatest (search rules) in
    named
    (ap (λ s. spread_text s c.args.sum) (sym c.in-Some.is))
    (then
    (then
    (named (ap signed_text least) c.put_signed.ensures)
    (named (ap signed_text greatest) c.put_signed-in-Some.ensures))
    (named (ap told_text c.told.ensures) c.put_told.ensures))
