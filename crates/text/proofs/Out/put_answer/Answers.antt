-- `text::Out::put_answer` meets its contract: the item, then a blank, then the number. Assumes nothing.
use Rattle.text.proofs.Wrote.{then}
use Rattle.text.proofs.Out.put_answer.Goals as goal

pub returns : goal.returns
returns c = then (then c.put_decimal.ensures c.put_byte.ensures) c.put_decimal-2.ensures
