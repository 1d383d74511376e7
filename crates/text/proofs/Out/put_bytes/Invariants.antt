-- `text::Out::put_bytes` meets its contract. The invariant: what is left of the bytes, written from the place on,
-- makes the whole. Assumes nothing.
use lib.ListN.{drop}
use Rattle.text.proofs.Wrote.{Left}
use Rattle.text.proofs.Out.put_bytes.Given as goal

abbrev pub invariant-loop-byte : goal.invariant-loop-byte
invariant-loop-byte l = Left (drop l.byte-index l.bytes) l.self l.bytes l.initial.self
