-- Paper 01: a set for one record: 1, 4 (`admitted_of`), 9 (`set_of`). Assumes nothing.
use Rattle.std.specs.Prelude.{ℕ, Err, Ok, ⊤}
use Rattle.clock.specs.declared.reading.VirtualLocalTime.{VirtualLocalTime}
use Rattle.admission.specs.declared.Needed.TheVariants.{Master}
use Rattle.admission.specs.Admission.{admitted_of}
use Rattle.domain.specs.declared.Domain.{Domain}
use Rattle.master_set.specs.Set.{set_of}
use Rattle.admission.specs.Kept.{kept_after}
use Rattle.domain.specs.declared.DomainCall.{DomainCall}
use Rattle.domain.specs.declared.DomainStep.{DomainStep}
use Rattle.refusal.specs.Numbers.{Outcome, outcome_number}

abbrev pub set_stepped : DomainStep (Outcome ⊤) → (kept t : VirtualLocalTime) → DomainCall (Outcome ⊤)
set_stepped s kept t =
    record { answer = s.answer; domain = s.domain; kept = kept_after (outcome_number s.answer) kept t }

abbrev pub set_call_as : Outcome ⊤ → Domain → (kept t : VirtualLocalTime) (seconds nanoseconds : ℕ) → DomainCall (Outcome ⊤)
set_call_as (Err refusal) d kept t s n = record { answer = Err refusal; domain = d; kept = kept }
set_call_as (Ok tt) d kept t s n = set_stepped (set_of d t s n) kept t

abbrev pub set_call_of :
    Domain → (kept : VirtualLocalTime) (asked : ℕ) (t : VirtualLocalTime) (seconds nanoseconds : ℕ) → DomainCall (Outcome ⊤)
set_call_of d kept asked t s n =
    set_call_as (admitted_of kept t d.number d.settings.role asked Master) d kept t s n
