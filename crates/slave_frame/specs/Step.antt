-- Paper 01, "A slave's domain" and 5 "frame not good under the check mode", which comes first.
-- Assumes nothing.
use Rattle.std.specs.Prelude.{ℕ, cond, List}
use Rattle.clock.specs.declared.reading.VirtualLocalTime.{VirtualLocalTime}
use Rattle.frame.specs.declared.values.Frame.{Frame}
use Rattle.frame.specs.declared.values.Frame.TheVariants.{Sync as sync, Fup as fup}
use Rattle.frame_check.specs.Check.{is_taken}
use Rattle.refusal.specs.declared.Refusal.TheVariants.{Check}
use Rattle.domain.specs.declared.Domain.{Domain}
use Rattle.slave_answer.specs.Answer.{refused_of}
use Rattle.slave_sync.specs.Sync.{sync_of}
use Rattle.slave_fup.specs.Fup.{fup_of}
use Rattle.domain.specs.declared.DomainStep.{DomainStep}
use Rattle.refusal.specs.Numbers.{Outcome}
use Rattle.slave_answer.specs.declared.Taken.{Taken}

abbrev pub kind_of : Domain → VirtualLocalTime → Frame → DomainStep (Outcome Taken)
kind_of d t (sync s) = sync_of d t s
kind_of d t (fup f) = fup_of d t f

abbrev pub frame_of : Domain → VirtualLocalTime → List ℕ → Frame → DomainStep (Outcome Taken)
frame_of d t bytes values =
    cond (is_taken d.settings.mode d.settings.ids bytes) (kind_of d t values) (refused_of d Check)
