-- A node's frame call by its parts. No contract cites this file.
--   call_stored    the record looked up at a place, and what the call of that record gives, stored there
--   frame_stored   the place of the domain that the bytes name
-- Assumes nothing.
use Prim.Native.Nat.{ℕ, ◌%◌}
use mathlib.Core.Path.{◌≡◌, ap, ◌∙◌}
use mathlib.Core.List.{List}
use Rattle.clock.specs.declared.reading.VirtualLocalTime.{VirtualLocalTime}
use Rattle.frame_read.specs.Read.{named_domain}
use Rattle.settings.specs.Node.{places}
use Rattle.domain.specs.declared.Domain.{Domain}
use Rattle.domain.specs.Records.{record_at}
use Rattle.call_frame.specs.FrameCall.{frame_call_of}
use Rattle.node.specs.declared.Node.{Node}
use Rattle.node.specs.Frame.{frame_stored, node_frame_of}
use Rattle.domain.specs.declared.DomainCall.{DomainCall}
use Rattle.refusal.specs.Numbers.{Outcome}
use Rattle.slave_answer.specs.declared.Taken.{Taken}

pub call_stored :
    (n : Node) (at : ℕ) (t : VirtualLocalTime) (bytes : List ℕ) {d : Domain} {call : DomainCall (Outcome Taken)} →
    d ≡ record_at n.domains at → call ≡ frame_call_of d n.kept t bytes →
    frame_stored n at call ≡ frame_stored n at (frame_call_of (record_at n.domains at) n.kept t bytes)
call_stored n at t bytes looked called =
    ap (frame_stored n at) (called ∙ ap (λ (x : Domain). frame_call_of x n.kept t bytes) looked)

pub frame_stored_lem :
    (n : Node) (t : VirtualLocalTime) (bytes : List ℕ) {named : ℕ} {d : Domain} {call : DomainCall (Outcome Taken)} →
    named ≡ named_domain bytes → d ≡ record_at n.domains (named % places) →
    call ≡ frame_call_of d n.kept t bytes → frame_stored n (named % places) call ≡ node_frame_of n t bytes
frame_stored_lem n t bytes {named} domain looked called =
    call_stored n (named % places) t bytes looked called
    ∙ ap (λ (i : ℕ).
    frame_stored n (i % places) (frame_call_of (record_at n.domains (i % places)) n.kept t bytes)) domain
