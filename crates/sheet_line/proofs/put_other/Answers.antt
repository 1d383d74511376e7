-- `sheet_line::put_other` meets its contract: the word, then the count, then the end of the line. Assumes nothing.
use Rattle.text.proofs.Wrote.{then}
use Rattle.sheet_line.proofs.put_other.Goals as goal

pub returns : goal.returns
returns c = then (then c.put_bytes.ensures c.put_plain.ensures) c.put_byte.ensures
