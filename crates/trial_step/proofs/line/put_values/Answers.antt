-- `trial_step::line::put_values` meets its contract: a frame and a set add nothing, and a main cycle its count and the
-- buffer. Assumes nothing.
use mathlib.Core.Path.{ap}
use borrow.Author.Rules.{rules}
use Rattle.text.specs.Text.{decimal}
use Rattle.text.proofs.Wrote.{then, named, nothing}
use Rattle.trial_step.proofs.line.Buffer.{cycle_shows}
use Rattle.trial_step.proofs.line.put_values.Goals as goal

pub returns-in-Frame : goal.returns-in-Frame
returns-in-Frame c = search (rules, nothing)

pub returns-in-Set : goal.returns-in-Set
returns-in-Set c = search (rules, nothing)

pub returns-in-Cycle : goal.returns-in-Cycle
returns-in-Cycle c =
    search (
      rules,
      named
          (cycle_shows c.in-Cycle.cycle c.args.buffer.now)
          (then
          (then
          c.put_byte.ensures
          (named (ap decimal c.count_of.ensures) c.put_decimal.ensures))
          c.put_buffer.ensures),
    )
