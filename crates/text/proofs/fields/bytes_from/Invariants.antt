-- `text::fields::bytes_from` meets its contract. The invariant: the first i bytes of the list are the i
-- bytes from the place on, and a turn is `fields_put`.
-- Assumes nothing.
use mathlib.Core.Path.{◌≡◌}
use lib.ListN.{length, take}
use Rattle.text.specs.Fields.{bytes_at}
use Rattle.text.proofs.fields.bytes_from.Given as goal

abbrev pub invariant-loop-i : goal.invariant-loop-i
invariant-loop-i g l = (length l.list ≡ g.row.N) × (take l.i l.list ≡ bytes_at l.i l.bytes l.at)
