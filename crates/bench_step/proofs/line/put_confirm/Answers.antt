-- `bench_step::line::put_confirm` meets its contract: a refusal adds nothing, and a confirmation the frame.
-- Assumes nothing.
use borrow.Author.Rules.{rules}
use Rattle.text.proofs.Wrote.{then, nothing}
use Rattle.bench_step.proofs.line.put_confirm.Goals as goal

pub returns-in-Err : goal.returns-in-Err
returns-in-Err c = search (rules, nothing)

pub returns-in-Ok : goal.returns-in-Ok
returns-in-Ok c = search (rules, then c.put_byte.ensures c.put_hex.ensures)
