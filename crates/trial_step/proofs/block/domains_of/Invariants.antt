-- `trial_step::block::domains_of` meets its contract. The invariant: the first d domains are those of
-- `domains_of`, and a turn is `fields_put`.
-- Assumes nothing.
use mathlib.Core.Path.{◌≡◌}
use lib.ListN.{length, take}
use Rattle.trial_step.specs.Block.{domains_of}
use Rattle.trial_step.proofs.block.domains_of.Given as goal

abbrev pub invariant-loop-d : goal.invariant-loop-d
invariant-loop-d l = (length l.domains ≡ 16) × (take l.d l.domains ≡ domains_of l.d l.blocks l.item)
