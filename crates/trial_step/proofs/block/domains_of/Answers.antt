-- `trial_step::block::domains_of` meets its contract: a turn is `fields_put`. Assumes nothing.
use Prim.Native.Nat.{ℕ}
use mathlib.Core.Path.{sym, ap, ◌∙◌}
use native.Mathlib.Omega.{arith}
use lib.ListN.{length-set}
use lib.Seq.{take_all}
use Rattle.text.proofs.fields.Laws.{fields_put}
use Rattle.trial_step.specs.Block.{one_of, domains_of}
use Rattle.trial_step.proofs.block.domains_of.Goals as goal

pub loop-d-preserved : goal.loop-d-preserved
loop-d-preserved c = (
  simp length-set c.loop-d.invariant.0,
  fields_put (one_of c.args.blocks c.args.item.now) 1 c.loop-d.domains c.loop-d.d 0 _ _
      (omega arith) (omega arith) c.one_of.ensures c.loop-d.invariant.1,
)

pub returns : goal.returns
returns c =
    sym (take_all c.loop-d.d c.loop-d.domains (omega arith)) ∙ c.loop-d.invariant.1
    ∙ ap (λ (k : ℕ). domains_of k c.args.blocks c.args.item.now) {x = c.loop-d.d} {y = 16} (omega arith)
