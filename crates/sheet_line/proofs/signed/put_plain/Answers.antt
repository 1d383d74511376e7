-- `sheet_line::signed::put_plain` meets its contract: a blank, then the number. Assumes nothing.
use Rattle.text.proofs.Wrote.{then}
use Rattle.sheet_line.proofs.signed.put_plain.Goals as goal

pub returns : goal.returns
returns c = then c.put_byte.ensures c.put_decimal.ensures
