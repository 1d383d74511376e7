-- `sheet_line::put_counts` meets its contract: a turn writes the first count that is left. Assumes nothing.
use mathlib.Core.Path.{ap}
use native.Mathlib.Numerals.{add-one}
use native.Mathlib.Omega.{arith}
use lib.ListN.{drop_of_length-le}
use lib.Seq.{drop-cons}
use Rattle.text.proofs.Wrote.{turn, ended}
use Rattle.sheet_line.specs.Line.{counts_text}
use Rattle.sheet_line.proofs.put_counts.Goals as goal

pub loop-n-preserved : goal.loop-n-preserved
loop-n-preserved c =
    let counts = c.args.counts in
    let i = c.loop-n.n-index in
    let split = ap counts_text (drop-cons counts i 0 (omega arith)) in
    rw (add-one i) (turn split c.put_plain.ensures c.loop-n.invariant)

pub returns : goal.returns
returns c =
    ended
    (ap counts_text (drop_of_length-le c.args.counts {i = c.loop-n.n-index} (omega arith)))
    c.loop-n.invariant
