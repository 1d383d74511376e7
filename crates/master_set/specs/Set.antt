-- Paper 01, "A master's domain": set. Assumes nothing.
use Rattle.std.specs.Prelude.{ℕ, cond, Err, Ok, Some, ⊤}
use Rattle.clock.specs.declared.reading.VirtualLocalTime.{VirtualLocalTime}
use Rattle.clock.specs.declared.time.GlobalTime.{GlobalTime}
use Rattle.clock.specs.Time.{is_nanoseconds}
use Rattle.clock.specs.Base.{base_of}
use Rattle.refusal.specs.declared.Refusal.TheVariants.{Nanoseconds}
use Rattle.refusal.specs.Numbers.{number_of, Outcome}
use Rattle.domain.specs.declared.Domain.{Domain}
use Rattle.domain.specs.Fields.{with_base, with_update}
use Rattle.domain.specs.declared.DomainStep.{DomainStep}

-- ---- "the base holds the given time at t"; "the update counter rises as above"; "An open SYNC is not
-- touched."
abbrev pub with_time : Domain → GlobalTime → VirtualLocalTime → Domain
with_time d g t = with_update (with_base d (Some (base_of g t)))

-- ---- 9 "nanoseconds above 999,999,999 (FUP, set)"
abbrev pub set_of : Domain → VirtualLocalTime → (seconds nanoseconds : ℕ) → DomainStep (Outcome ⊤)
set_of d t s n =
    cond (is_nanoseconds n)
    (record { answer = Ok tt; domain = with_time d (record { 0 = s; 1 = n }) t })
    (record { answer = Err Nanoseconds; domain = d })
