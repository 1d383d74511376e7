-- Paper 01, "Refusal numbers": a node's read call. Assumes nothing.
use Rattle.std.specs.Prelude.{ℕ, ◌%◌}
use Rattle.clock.specs.declared.reading.VirtualLocalTime.{VirtualLocalTime}
use Rattle.call_read.specs.ReadCall.{read_call_of}
use Rattle.settings.specs.Node.{places}
use Rattle.domain.specs.Records.{record_at}
use Rattle.node.specs.declared.Node.{Node}
use Rattle.call_read.specs.declared.Shown.{Shown}
use Rattle.refusal.specs.Numbers.{Outcome}

abbrev pub node_read_of : Node → (domain : ℕ) → VirtualLocalTime → Outcome Shown
node_read_of n domain t = read_call_of (record_at n.domains (domain % places)) n.kept domain t
