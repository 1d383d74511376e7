-- `trial_step::line::put_trial_line` meets its contract: the answer, then what it adds, then the end of the line.
-- Assumes nothing.
use borrow.Author.Rules.{rules}
use Rattle.text.proofs.Wrote.{then}
use Rattle.trial_step.proofs.line.put_trial_line.Goals as goal

pub returns : goal.returns
returns c = search (rules, then (then c.put_answer.ensures c.put_values.ensures) c.put_byte.ensures)
