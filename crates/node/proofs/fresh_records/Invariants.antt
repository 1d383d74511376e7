-- `node::fresh_records` meets its contract. The invariant: the records passed, and those of the
-- settings that are left, are all of them.
-- Assumes nothing.
use Rattle.std.proofs.Common.{◌≡◌, ◌++◌, length, take, drop}
use Rattle.settings.specs.Node.{places}
use Rattle.node.specs.New.{records_of}
use Rattle.node.proofs.fresh_records.Given as goal

abbrev pub invariant-loop-d : goal.invariant-loop-d
invariant-loop-d l =
    (length l.records ≡ places)
    × (take l.d l.records ++ records_of l.d (drop l.d l.fn.settings) ≡ records_of 0 l.fn.settings)
