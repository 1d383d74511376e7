-- A node's records looked up and stored. Assumes nothing.
use Rattle.std.specs.Prelude.{ℕ, set}
use Rattle.clock.specs.declared.reading.VirtualLocalTime.{VirtualLocalTime}
use Rattle.domain.specs.declared.Domain.{Domain}
use Rattle.node.specs.declared.Node.{Node}

-- ---- the node with a record stored at a place, and a reading kept
abbrev pub stored_in : Node → (at : ℕ) → Domain → VirtualLocalTime → Node
stored_in n at d kept =
    record {
      domains = set n.domains at d;
      kept = kept;
      syncs_per_cycle = n.syncs_per_cycle;
      round = n.round;
    }
