-- `text::Out::put_hex` meets its contract. The invariant: what is left of the bytes, written in hexadecimal
-- from the place on, makes the whole. Assumes nothing.
use lib.ListN.{drop}
use Rattle.text.specs.Text.{hex_of}
use Rattle.text.proofs.Wrote.{Left}
use Rattle.text.proofs.Out.put_hex.Given as goal

abbrev pub invariant-loop-byte : goal.invariant-loop-byte
invariant-loop-byte l = Left (hex_of (drop l.byte-index l.bytes)) l.self (hex_of l.bytes) l.initial.self
