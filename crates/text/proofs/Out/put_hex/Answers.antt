-- `text::Out::put_hex` meets its contract: a turn writes the first byte that is left. Assumes nothing.
use mathlib.Core.Path.{ap}
use native.Mathlib.Numerals.{add-one}
use native.Mathlib.Omega.{arith}
use lib.ListN.{drop_of_length-le}
use Rattle.text.specs.Text.{hex_of}
use Rattle.text.proofs.Laws.{hex_cons}
use Rattle.text.proofs.Wrote.{turn, ended}
use Rattle.text.proofs.Out.put_hex.Goals as goal

pub loop-byte-preserved : goal.loop-byte-preserved
loop-byte-preserved c =
    let i = c.loop-byte.byte-index in
    rw (add-one i) (turn (hex_cons c.args.bytes.now i (omega arith)) c.put_hex_byte.ensures c.loop-byte.invariant)

pub returns : goal.returns
returns c =
    ended (ap hex_of (drop_of_length-le c.args.bytes.now {i = c.loop-byte.byte-index} (omega arith))) c.loop-byte.invariant
