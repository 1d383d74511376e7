-- `trial_step::queue::readings_of` meets its contract. The invariant: the first i readings are the i numbers behind the
-- first 20 bytes, and a turn is `fields_put`.
-- Assumes nothing.
use mathlib.Core.Path.{◌≡◌}
use lib.ListN.{length, take}
use Rattle.text.specs.Fields.{longs_at}
use Rattle.trial_step.proofs.queue.readings_of.Given as goal

abbrev pub invariant-loop-i : goal.invariant-loop-i
invariant-loop-i l = (length l.readings ≡ 255) × (take l.i l.readings ≡ longs_at l.i l.bytes 20)
