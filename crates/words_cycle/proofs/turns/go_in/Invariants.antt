-- The invariant: what is left of the turns gives what all of them give (`Rest`), and a turn keeps it (`onward`).
-- Assumes nothing.
use Rattle.std.proofs.Common.{◌-◌, ◌≤◌, ◌<◌}
use Rattle.settings.specs.Node.{places}
use Rattle.words_cycle.specs.Cycle.{went_by}
use Rattle.words_cycle.proofs.Rest.{Rest}
use Rattle.words_cycle.proofs.turns.go_in.Given as goal

abbrev pub invariant-loop-turns : goal.invariant-loop-turns
invariant-loop-turns l =
    (l.at < places) × (l.sent ≤ l._turns)
    × Rest (went_by l.initial.node l.first l.t l.most) l.initial.out l.most l.t (places - l._turns) l.at l.sent l.node
    l.next l.out
