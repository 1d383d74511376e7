-- A frame keeps the invariant.
use Rattle.std.proofs.Common.{arith, length-set}
use Rattle.words_frame.proofs.Rest.{onward}
use Rattle.words_frame.proofs.queues.queue_in.Goals as goal

pub loop-i-preserved : goal.loop-i-preserved
loop-i-preserved c =
    let inv = c.loop-i.invariant in (
      inv.0,
      inv.1,
      inv.2,
      simp length-set inv.3,
      onward _ _ _ _ _ _ _ _ _ _ (omega arith) (omega arith) c.take_in-answer.ensures c.number-in-loop-i.ensures
          inv.4,
    )
