-- `trial_step::line::put_number` meets its contract: the line is the answer and then the newline. Assumes nothing.
use Rattle.text.proofs.Wrote.{then}
use Rattle.trial_step.proofs.line.put_number.Goals as goal

pub returns : goal.returns
returns c = then c.put_answer.ensures c.put_byte.ensures
