-- `bench_step::line::put_cycle` meets its contract: a refusal adds nothing, and a cycle the count and its frame, if
-- any. Assumes nothing.
use borrow.Author.Rules.{rules}
use Rattle.text.proofs.Wrote.{then, named, nothing}
use Rattle.bench_step.proofs.line.Frames.{no_frame, one_frame}
use Rattle.bench_step.proofs.line.put_cycle.Goals as goal

pub returns-then-count-eq0 : goal.returns-then-count-eq0
returns-then-count-eq0 c =
    search (
      rules,
      then
          (then c.put_byte.ensures c.put_decimal.ensures)
          (named (no_frame c.args.sent.now c.if-count-eq0.true) nothing),
    )

pub returns-in-Err : goal.returns-in-Err
returns-in-Err c = search (rules, nothing)

pub returns-else-count-eq0 : goal.returns-else-count-eq0
returns-else-count-eq0 c =
    search (
      rules,
      then
          (then c.put_byte.ensures c.put_decimal.ensures)
          (named
          (one_frame c.args.sent.now _ c.if-count-eq0.false)
          (then c.put_byte-in-Ok.ensures c.put_hex.ensures)),
    )
