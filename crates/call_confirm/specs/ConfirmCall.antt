-- Paper 01: a confirmation for one record: 1, 4 (`admitted_of`), 11, 12 (`confirm_of`). Assumes nothing.
use Rattle.std.specs.Prelude.{ℕ, ◌≡◌, List, leb, length, Err, Ok, ⊤}
use Rattle.clock.specs.declared.reading.VirtualLocalTime.{VirtualLocalTime}
use Rattle.frame.specs.declared.data_ids.DataIds.{DataIds}
use Rattle.frame.specs.declared.values.Frame.TheVariants.{Fup as fup}
use Rattle.frame_write.specs.Write.{bytes_of, written_in}
use Rattle.admission.specs.declared.Needed.TheVariants.{Master}
use Rattle.admission.specs.Admission.{admitted_of}
use Rattle.admission.specs.Kept.{kept_after}
use Rattle.domain.specs.declared.Domain.{Domain}
use Rattle.master_confirm.specs.Confirm.{confirm_of}
use Rattle.domain.specs.declared.DomainCall.{DomainCall}
use Rattle.domain.specs.declared.DomainStep.{DomainStep}
use Rattle.frame.specs.declared.values.Fup.{Fup}
use Rattle.refusal.specs.Numbers.{Outcome, outcome_number}

abbrev pub confirm_stepped : DomainStep (Outcome Fup) → (kept t : VirtualLocalTime) → DomainCall (Outcome Fup)
confirm_stepped s kept t =
    record { answer = s.answer; domain = s.domain; kept = kept_after (outcome_number s.answer) kept t }

abbrev pub confirm_call_as : Outcome ⊤ → Domain → (kept t : VirtualLocalTime) (counter length : ℕ) → DomainCall (Outcome Fup)
confirm_call_as (Err refusal) d kept t counter length = record { answer = Err refusal; domain = d; kept = kept }
confirm_call_as (Ok tt) d kept t counter length = confirm_stepped (confirm_of d t counter (leb 8 length)) kept t

abbrev pub confirm_call_of :
    Domain → (kept : VirtualLocalTime) (asked : ℕ) (t : VirtualLocalTime) (counter length : ℕ) → DomainCall (Outcome Fup)
confirm_call_of d kept asked t counter length =
    confirm_call_as (admitted_of kept t d.number d.settings.role asked Master) d kept t counter length

-- ---- "A refused call returns the number and zeros; state and lent bytes stay. On success bytes beyond those
-- written stay."
abbrev pub confirm_bytes : Outcome Fup → DataIds → List ℕ → List ℕ
confirm_bytes (Ok f) ids out = written_in (bytes_of ids (fup f)) 0 out
confirm_bytes (Err refusal) ids out = out

pub record ConfirmedIn
    (d : Domain) (kept : VirtualLocalTime) (asked : ℕ) (t : VirtualLocalTime) (counter : ℕ) (before : List ℕ)
    (r : DomainCall (Outcome Fup)) (after : List ℕ) : Type 0 where
  pub call : r ≡ confirm_call_of d kept asked t counter (length before)
  pub bytes : after ≡ confirm_bytes r.answer d.settings.ids before
