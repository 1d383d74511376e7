-- Paper 01, "Refusal numbers": what a slave answers to a frame, and the step that refuses. Assumes nothing.
use Rattle.std.specs.Prelude.{ℕ, ◌≡◌, Err, Ok}
use Rattle.refusal.specs.declared.Refusal.{Refusal}
use Rattle.refusal.specs.Numbers.{number_of, outcome_number, StateStays, Outcome}
use Rattle.domain.specs.declared.Domain.{Domain}
use Rattle.domain.specs.declared.DomainStep.{DomainStep}
use Rattle.slave_answer.specs.declared.Taken.{Taken}
use Rattle.slave_answer.specs.declared.Taken.TheVariants.{First, Opened, Updated}

-- ---- "A refused call returns the number and zeros; state and lent bytes stay."
abbrev pub refused_of : Domain → Refusal → DomainStep (Outcome Taken)
refused_of d refusal = record { answer = Err refusal; domain = d }

-- ---- a refusal keeps the record, but for the exceptions
abbrev pub Keeps : Domain → DomainStep (Outcome Taken) → Type 0
Keeps d r = StateStays (outcome_number r.answer) → r.domain ≡ d
