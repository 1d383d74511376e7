-- `text::Out::put_time` meets its contract: the seconds, then a point, then the digits. Assumes nothing.
use Rattle.text.proofs.Wrote.{then}
use Rattle.text.proofs.Out.put_time.Goals as goal

pub returns : goal.returns
returns c = then (then c.put_decimal.ensures c.put_byte.ensures) c.put_nine_digits.ensures
