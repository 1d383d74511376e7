-- Demands 1 and 2 hold: each statement by the laws that make it up. No contract cites this file.
--   demand_one   every call answers by its tests, and a refusal leaves the node but for what 6 and 15 change, and every
--                lent byte
--   demand_two   what is sent is read back, and what is accepted is written back
-- Assumes nothing.
use Rattle.node_queue.proofs.Laws.{queue_refusal_keeps}
use Rattle.node_laws.specs.Demands.{DemandOne, DemandTwo}
use Rattle.node_laws.proofs.Laws.{refusal_keeps, refusal_keeps_bytes}
use Rattle.node_laws.proofs.Order.{order, new_order}
use Rattle.node_laws.proofs.Excepted.{frames_only, six_keeps, fifteen_keeps}
use Rattle.node_laws.proofs.Refused.{refused_zeros}
use Rattle.node_laws.proofs.Queue.{queue_order}
use Rattle.node_laws.proofs.Reachable.{sync_back, fup_back}
use Rattle.node_laws.proofs.Cycles.{cycle_whole}
use Rattle.node_laws.proofs.Accepted.{accepted_back}

pub demand_one : DemandOne
demand_one =
    record {
      number = order;
      new_number = new_order;
      zeros = refused_zeros;
      state = refusal_keeps;
      six = six_keeps;
      fifteen = fifteen_keeps;
      frames = frames_only;
      bytes = λ n c e. (refusal_keeps_bytes n c e).0;
      number_of_queue = queue_order;
      queue_keeps = queue_refusal_keeps;
    }

pub demand_two : DemandTwo
demand_two = record { written = cycle_whole; syncs = sync_back; fups = fup_back; accepted = accepted_back }
