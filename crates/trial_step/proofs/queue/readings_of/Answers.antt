-- `trial_step::queue::readings_of` meets its contract: a turn is `fields_put`. Assumes nothing.
use Prim.Native.Nat.{ℕ}
use mathlib.Core.Path.{sym, ap, ◌∙◌}
use native.Mathlib.Omega.{arith}
use lib.ListN.{length-set}
use lib.Seq.{take_all}
use Rattle.text.specs.Fields.{long_at, longs_at}
use Rattle.text.proofs.fields.Laws.{fields_put}
use Rattle.trial_step.proofs.queue.readings_of.Goals as goal

pub loop-i-preserved : goal.loop-i-preserved
loop-i-preserved c = (
  simp length-set c.loop-i.invariant.0,
  fields_put (long_at c.args.bytes.now) 8 c.loop-i.readings c.loop-i.i 20 _ _
      (omega arith) (omega arith) c.long_at.ensures c.loop-i.invariant.1,
)

pub returns : goal.returns
returns c =
    sym (take_all c.loop-i.i c.loop-i.readings (omega arith)) ∙ c.loop-i.invariant.1
    ∙ ap (λ (k : ℕ). longs_at k c.args.bytes.now 20) {x = c.loop-i.i} {y = 255} (omega arith)
