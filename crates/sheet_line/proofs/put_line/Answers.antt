-- `sheet_line::put_line` meets its contract: the domain, then the counts, then what is said of D, then the end of the
-- line. Assumes nothing.
use Rattle.text.proofs.Wrote.{then}
use Rattle.sheet_line.proofs.put_line.Goals as goal

pub returns : goal.returns
returns c =
    then
    (then (then c.put_decimal.ensures c.put_counts.ensures) c.put_spread.ensures)
    c.put_byte.ensures
