-- `runs::Run::take_items` is safe and ends: what is left is no longer than what is held. Assumes nothing.
use Rattle.std.proofs.Common.{◌≤◌, length}
use Rattle.runs.proofs.Run.take_items.Given as goal

abbrev pub invariant-loop : goal.invariant-loop
invariant-loop g l = length l.rest ≤ length l.input
