-- `trial_step::line::put_buffer` meets its contract: a blank, and then a dash or the bytes. Assumes nothing.
use Rattle.text.proofs.Wrote.{then, named}
use Rattle.trial_step.proofs.line.Buffer.{no_byte, some_byte}
use Rattle.trial_step.proofs.line.put_buffer.Goals as goal

pub returns-then-buffer-eq0 : goal.returns-then-buffer-eq0
returns-then-buffer-eq0 c =
    then c.put_byte.ensures (named (no_byte c.args.buffer.now c.if-buffer-eq0.true) c.put_byte-then-buffer-eq0.ensures)

pub returns : goal.returns
returns c = then c.put_byte.ensures (named (some_byte c.args.buffer.now c.if-buffer-eq0.false) c.put_hex.ensures)
