-- Paper 01, "A slave's domain": a node's frame call. Assumes nothing.
use Rattle.std.specs.Prelude.{ℕ, ◌%◌, List}
use Rattle.clock.specs.declared.reading.VirtualLocalTime.{VirtualLocalTime}
use Rattle.frame_read.specs.Read.{named_domain}
use Rattle.settings.specs.Node.{places}
use Rattle.call_frame.specs.FrameCall.{frame_call_of}
use Rattle.domain.specs.Records.{record_at}
use Rattle.node.specs.declared.Node.{Node}
use Rattle.node.specs.Store.{stored_in}
use Rattle.domain.specs.declared.DomainCall.{DomainCall}
use Rattle.node.specs.declared.NodeStep.{NodeStep}
use Rattle.refusal.specs.Numbers.{Outcome}
use Rattle.slave_answer.specs.declared.Taken.{Taken}

-- ---- the place of the domain that the bytes name
abbrev pub addressed_by : List ℕ → ℕ
addressed_by bytes = named_domain bytes % places

abbrev pub frame_stored : Node → (at : ℕ) → DomainCall (Outcome Taken) → NodeStep (Outcome Taken)
frame_stored n at r = record { answer = r.answer; node = stored_in n at r.domain r.kept }

abbrev pub node_frame_of : Node → VirtualLocalTime → List ℕ → NodeStep (Outcome Taken)
node_frame_of n t bytes =
    frame_stored n (addressed_by bytes) (frame_call_of (record_at n.domains (addressed_by bytes)) n.kept t bytes)
