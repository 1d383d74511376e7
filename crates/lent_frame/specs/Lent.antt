-- Paper 02, request 11: "Let a frame be taken on one domain's record that the product lends, with that record updated
-- where it stands", "the kept reading passed beside" it. What is done is `frame_call_of`. Assumes nothing.
use Rattle.std.specs.Prelude.{ℕ, ◌≡◌, List}
use Rattle.clock.specs.declared.reading.VirtualLocalTime.{VirtualLocalTime}
use Rattle.domain.specs.declared.Domain.{Domain}
use Rattle.call_frame.specs.FrameCall.{frame_call_of}
use Rattle.lent_frame.specs.declared.LentFrame.{LentFrame}
use Rattle.domain.specs.declared.DomainCall.{DomainCall}
use Rattle.refusal.specs.Numbers.{Outcome}
use Rattle.slave_answer.specs.declared.Taken.{Taken}

-- ---- what is answered: all but the record, which stays with the product
abbrev pub lent_frame : DomainCall (Outcome Taken) → LentFrame
lent_frame r = record { answer = r.answer; kept = r.kept }

-- ---- The promise: the answer, the kept reading, and the lent record.
pub record TakenOn
    (d : Domain) (kept t : VirtualLocalTime) (bytes : List ℕ) (r : LentFrame) (after : Domain) : Type 0 where
  pub call : r ≡ lent_frame (frame_call_of d kept t bytes)
  pub domain : after ≡ (frame_call_of d kept t bytes).domain
