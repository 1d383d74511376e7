-- `sheet_line::signed::put_minus` meets its contract: a blank and the sign, then the number. Assumes nothing.
use Rattle.text.proofs.Wrote.{then}
use Rattle.sheet_line.proofs.signed.put_minus.Goals as goal

pub returns : goal.returns
returns c = then c.put_bytes.ensures c.put_decimal.ensures
