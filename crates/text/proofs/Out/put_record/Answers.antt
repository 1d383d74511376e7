-- `text::Out::put_record` meets its contract: the words, then the item, then the end of the line. Assumes nothing.
use Rattle.text.proofs.Wrote.{then}
use Rattle.text.proofs.Out.put_record.Goals as goal

pub returns : goal.returns
returns c = then (then c.put_bytes.ensures c.put_decimal.ensures) c.put_byte.ensures
