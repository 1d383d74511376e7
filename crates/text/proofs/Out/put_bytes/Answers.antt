-- `text::Out::put_bytes` meets its contract: a turn writes the first byte that is left. Assumes nothing.
use native.Mathlib.Numerals.{add-one}
use native.Mathlib.Omega.{arith}
use lib.ListN.{drop_of_length-le}
use lib.Seq.{drop-cons}
use Rattle.text.proofs.Wrote.{turn, ended}
use Rattle.text.proofs.Out.put_bytes.Goals as goal

pub loop-byte-preserved : goal.loop-byte-preserved
loop-byte-preserved c =
    let i = c.loop-byte.byte-index in
    rw (add-one i) (turn (drop-cons c.args.bytes.now i 0 (omega arith)) c.put_byte.ensures c.loop-byte.invariant)

pub returns : goal.returns
returns c = ended (drop_of_length-le c.args.bytes.now {i = c.loop-byte.byte-index} (omega arith)) c.loop-byte.invariant
