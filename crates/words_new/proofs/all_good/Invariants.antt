-- The invariant: the domains passed are good, so that what is left decides.
-- Assumes nothing.
use mathlib.Core.Path.{◌≡◌}
use Rattle.settings.specs.Node.{places, all_good}
use Rattle.words_new.specs.New.{given_at, node_given}
use Rattle.words_new.proofs.Left.{left}
use Rattle.words_new.proofs.all_good.Given as goal

abbrev pub invariant-loop-d : goal.invariant-loop-d
invariant-loop-d l =
    all_good (left places (given_at l.given) l.d) ≡ all_good (node_given l.given).domains
