-- Laws of a slave's FUP. No contract cites this file.
--   refusal_keeps_fup   a refused FUP leaves the record as it was
--   fup_closes          a FUP that is not refused leaves no pair open
-- Assumes nothing.
use Rattle.std.specs.Prelude.{Err, None, Ok}
use mathlib.Core.Path.{◌≡◌, refl}
use native.Mathlib.Omega.{arith}
use Rattle.clock.specs.declared.reading.VirtualLocalTime.{VirtualLocalTime}
use Rattle.frame.specs.declared.values.Fup.{Fup}
use Rattle.domain.specs.declared.Domain.{Domain}
use Rattle.slave_pair.specs.Join.{joined_of}
use Rattle.slave_pair.proofs.Laws.{by_joined}
use Rattle.slave_update.specs.Update.{new_base}
use Rattle.slave_update.proofs.Laws.{update_taken}
use Rattle.slave_fup.specs.Fup.{fup_as, fup_of}
use Rattle.domain.specs.declared.DomainStep.{DomainStep}
use Rattle.domain.specs.declared.Pair.{Pair}
use Rattle.refusal.specs.Numbers.{Outcome, outcome_number}
use Rattle.slave_answer.specs.declared.Taken.{Taken}

-- ---- a refusal keeps the record

abbrev RefusalKeeps : Domain → DomainStep (Outcome Taken) → Type 0
RefusalKeeps d r = (outcome_number r.answer ≡ 0 → ⊥) → r.domain ≡ d

as_keeps : (j : Outcome Pair) (d : Domain) (f : Fup) → RefusalKeeps d (fup_as j d f)
as_keeps (Err refusal) d f = λ e. refl
as_keeps (Ok p) d f =
    λ e. absurd (e (update_taken d.settings.future_threshold d.settings.past_threshold d.settings.clear_count d.leap d.base (new_base p f)))

pub refusal_keeps_fup : (d : Domain) (t : VirtualLocalTime) (f : Fup) → RefusalKeeps d (fup_of d t f)
refusal_keeps_fup d t f = as_keeps (joined_of d.settings.follow_up_time d.pairing t f) d f

-- ---- what a FUP does

pub fup_closes :
    (d : Domain) (t : VirtualLocalTime) (f : Fup) → outcome_number (fup_of d t f).answer ≡ 0 →
    (fup_of d t f).domain.pairing ≡ None
fup_closes d t f =
    by_joined
    (λ (j : Outcome Pair). outcome_number (fup_as j d f).answer ≡ 0 → (fup_as j d f).domain.pairing ≡ None)
    d.settings.follow_up_time d.pairing t f (λ e. absurd (omega arith)) (λ e. absurd (omega arith))
    (λ e. absurd (omega arith)) (λ p told e. refl)
