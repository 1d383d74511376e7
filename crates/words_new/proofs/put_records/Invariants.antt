-- The invariant: the words passed, and those of the records that are left, are all of them.
-- Assumes nothing.
use mathlib.Core.Path.{◌≡◌}
use mathlib.Core.List.{◌++◌}
use lib.ListN.{length, take}
use Rattle.settings.specs.Node.{places}
use Rattle.node_words.specs.Words.{node_size, settings_at}
use Rattle.node_words.specs.Node.{records_words}
use Rattle.words_new.specs.Made.{made_at, made_node}
use Rattle.words_new.proofs.Left.{left_words}
use Rattle.words_new.proofs.put_records.Given as goal

abbrev pub invariant-loop-d : goal.invariant-loop-d
invariant-loop-d l = (length l.node ≡ node_size)
    × (take (settings_at l.d) l.node ++ left_words places (made_at l.taken l.given) l.d
    ≡ take 2 l.initial.node ++ records_words (made_node l.taken l.given).domains)
