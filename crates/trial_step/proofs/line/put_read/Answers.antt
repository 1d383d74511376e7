-- `trial_step::line::put_read` meets its contract: a refusal adds nothing, and a read the time and the status, then the
-- user bytes and the update counter, a blank before each. Assumes nothing.
use borrow.Author.Rules.{rules}
use Rattle.text.proofs.Wrote.{then, nothing}
use Rattle.trial_step.proofs.line.put_read.Goals as goal

pub returns-in-Err : goal.returns-in-Err
returns-in-Err c = search (rules, nothing)

pub returns-in-Ok : goal.returns-in-Ok
returns-in-Ok c =
    search (
      rules,
      then
          (then
          (then (then c.put_shown.ensures c.put_byte.ensures) c.put_hex.ensures)
          c.put_byte-in-Ok.ensures)
          c.put_decimal.ensures,
    )
