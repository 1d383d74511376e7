-- Paper 01, "A master's domain": a node's set call. Assumes nothing.
use Rattle.std.specs.Prelude.{ℕ, ◌%◌, ⊤}
use Rattle.clock.specs.declared.reading.VirtualLocalTime.{VirtualLocalTime}
use Rattle.call_set.specs.SetCall.{set_call_of}
use Rattle.settings.specs.Node.{places}
use Rattle.domain.specs.Records.{record_at}
use Rattle.node.specs.declared.Node.{Node}
use Rattle.node.specs.Store.{stored_in}
use Rattle.domain.specs.declared.DomainCall.{DomainCall}
use Rattle.node.specs.declared.NodeStep.{NodeStep}
use Rattle.refusal.specs.Numbers.{Outcome}

abbrev pub set_stored : Node → (at : ℕ) → DomainCall (Outcome ⊤) → NodeStep (Outcome ⊤)
set_stored n at r = record { answer = r.answer; node = stored_in n at r.domain r.kept }

abbrev pub node_set_of : Node → (domain : ℕ) → VirtualLocalTime → (seconds nanoseconds : ℕ) → NodeStep (Outcome ⊤)
node_set_of n domain t s ns =
    set_stored n (domain % places) (set_call_of (record_at n.domains (domain % places)) n.kept domain t s ns)
