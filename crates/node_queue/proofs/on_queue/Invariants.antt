-- `node_queue::on_queue` meets its contract. The invariant: what is left of the queue gives what all of it gives
-- (`Rest`), and a frame keeps it (`onward`).
-- Assumes nothing.
use Rattle.std.specs.Prelude.{Ok}
use Rattle.std.proofs.Common.{◌≡◌, ◌*◌, ◌≤◌, length}
use Rattle.settings.specs.Node.{places}
use Rattle.node_queue.specs.Queue.{queue_node, queue_bytes}
use Rattle.node_queue.proofs.Rest.{Rest}
use Rattle.node_queue.proofs.on_queue.Given as goal

abbrev pub invariant-loop-i : goal.invariant-loop-i
invariant-loop-i l =
    (l.i ≤ length l.readings) × (length l.readings ≤ 32) × (length l.frames ≡ 8 * length l.readings)
    × (length l.readings ≤ length l.initial.answers) × (length l.answers ≡ length l.initial.answers)
    × (length l.node.domains ≡ places)
    × Rest (queue_node (Ok tt) l.initial.node l.readings l.frames)
    (queue_bytes (Ok tt) l.initial.node l.readings l.frames l.initial.answers) l.readings l.frames l.i l.node l.answers
