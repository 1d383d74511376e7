-- `node_queue::on_queue` meets its contract: a frame keeps the invariant. Assumes nothing.
use Rattle.std.proofs.Common.{arith, ℕ, ◌+◌, ◌-◌, ◌*◌, ◌≡◌, ap, ◌∙◌, take, drop, get_or, length-set}
use Rattle.promise.proofs.Lists.{get_d_any}
use Rattle.node.specs.Frame.{node_frame_of}
use Rattle.node.proofs.frames.Stored.{frame_stored_lem}
use Rattle.node_queue.proofs.Rest.{onward}
use Rattle.node_queue.proofs.on_queue.Goals as goal
use Rattle.node.specs.declared.NodeStep.{NodeStep}
use Rattle.refusal.specs.Numbers.{Outcome, outcome_number}
use Rattle.slave_answer.specs.declared.Taken.{Taken}

pub loop-i-preserved : goal.loop-i-preserved
loop-i-preserved c =
    let a = c.args in
    let n = c.loop-i.node in
    let i = c.loop-i.i in
    let inv = c.loop-i.invariant in
    let eight : 8 * i + 8 - 8 * i ≡ 8 = omega arith in
    let stored =
    frame_stored_lem n (record { 0 = get_or a.readings.now i 0 })
    (take (8 * i + 8 - 8 * i) (drop (8 * i) a.frames.now))
    c.named_domain.ensures
    (get_d_any n.domains _ _ _ (omega (arith, inv.5)))
    c.frame_call-call.ensures
    ∙ ap (λ (k : ℕ).
    node_frame_of n (record { 0 = get_or a.readings.now i 0 }) (take k (drop (8 * i) a.frames.now))) eight
    in (
      omega arith,
      inv.1,
      inv.2,
      inv.3,
      simp length-set inv.4,
      simp length-set inv.5,
      onward _ _ _ _ _ _ _ _ _ (omega arith) (omega arith)
          (ap (λ (r : NodeStep (Outcome Taken)). r.node) stored)
          (c.number.ensures ∙ ap (λ (r : NodeStep (Outcome Taken)). outcome_number r.answer) stored)
          inv.6,
    )
