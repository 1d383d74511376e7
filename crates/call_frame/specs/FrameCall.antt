-- Paper 01, and paper 02, request 5: a frame for one record: 1, 2, 3, 4 (`frame_admitted`), 5, then 6 and 15, or 7, 8, 9
-- (`frame_of`). Assumes nothing.
use Rattle.std.specs.Prelude.{ℕ, cond, List, eqb, Err, Ok}
use Rattle.clock.specs.declared.reading.VirtualLocalTime.{VirtualLocalTime}
use Rattle.admission.specs.FrameAdmission.{frame_admitted}
use Rattle.domain.specs.declared.Domain.{Domain}
use Rattle.slave_frame.specs.Step.{frame_of}
use Rattle.admission.specs.Kept.{kept_after}
use Rattle.domain.specs.declared.DomainCall.{DomainCall}
use Rattle.domain.specs.declared.DomainStep.{DomainStep}
use Rattle.frame.specs.declared.values.Frame.{Frame}
use Rattle.refusal.specs.Numbers.{Outcome, outcome_number}
use Rattle.slave_answer.specs.declared.Taken.{Taken}

-- ---- the reading kept after a frame: of a SYNC under 15 "its reading is kept"
abbrev pub frame_kept : (number : ℕ) → (kept t : VirtualLocalTime) → VirtualLocalTime
frame_kept number kept t = cond (eqb number 15) t (kept_after number kept t)

abbrev pub frame_stepped : DomainStep (Outcome Taken) → (kept t : VirtualLocalTime) → DomainCall (Outcome Taken)
frame_stepped s kept t =
    record { answer = s.answer; domain = s.domain; kept = frame_kept (outcome_number s.answer) kept t }

abbrev pub frame_call_as : Outcome Frame → Domain → (kept t : VirtualLocalTime) → List ℕ → DomainCall (Outcome Taken)
frame_call_as (Err refusal) d kept t bytes = record { answer = Err refusal; domain = d; kept = kept }
frame_call_as (Ok values) d kept t bytes = frame_stepped (frame_of d t bytes values) kept t

abbrev pub frame_call_of : Domain → (kept t : VirtualLocalTime) → List ℕ → DomainCall (Outcome Taken)
frame_call_of d kept t bytes =
    frame_call_as (frame_admitted kept t d.number d.settings.role bytes) d kept t bytes
