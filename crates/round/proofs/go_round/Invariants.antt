-- `round::go_round` meets its contract. The invariant: what is left of the turns gives what all of them
-- give (`Rest`), and a turn keeps it (`onward`).
-- Assumes nothing.
use Rattle.std.proofs.Common.{◌≡◌, ◌-◌, ◌≤◌, ◌<◌, length}
use Rattle.settings.specs.Node.{places}
use Rattle.round.specs.Round.{round_of}
use Rattle.round.proofs.Rest.{Rest}
use Rattle.round.proofs.go_round.Given as goal

abbrev pub invariant-loop-turns : goal.invariant-loop-turns
invariant-loop-turns l =
    (l.turns ≤ places) × (l.at < places) × (l.sent ≤ l.turns) × (length l.records ≡ places)
    × (length l.out ≡ length l.initial.out)
    × Rest (round_of l.initial.records l.first l.t l.most) l.initial.out l.most l.t (places - l.turns) l.at l.sent
    l.records l.next l.out
