-- Paper 01, "A slave's domain": FUP. Assumes nothing.
use Rattle.std.specs.Prelude.{Err, None, Ok, Option, Some}
use Rattle.clock.specs.declared.reading.VirtualLocalTime.{VirtualLocalTime}
use Rattle.clock.specs.declared.base.TimeBase.{TimeBase}
use Rattle.frame.specs.declared.values.Fup.{Fup}
use Rattle.domain.specs.declared.Domain.{Domain}
use Rattle.domain.specs.Fields.{with_base, with_update, with_pairing, with_stored}
use Rattle.domain.specs.declared.Pair.{Pair}
use Rattle.slave_update.specs.declared.update.Update.{Update}
use Rattle.slave_pair.specs.Join.{joined_of}
use Rattle.slave_update.specs.Update.{new_base, update_of}
use Rattle.slave_answer.specs.Answer.{refused_of}
use Rattle.slave_pair.specs.Pair.{user_in}
use Rattle.domain.specs.declared.DomainStep.{DomainStep}
use Rattle.domain.specs.declared.Leap.{Leap}
use Rattle.refusal.specs.Numbers.{Outcome}
use Rattle.slave_answer.specs.declared.Taken.{Taken}

-- ---- "The pair closes. The update counter rises by 1, from 255 to 0. The user bytes and SGW are
-- stored; one that the frame kind doesn't carry reads 0."
abbrev pub updated_of : Domain → Pair → Fup → Option Leap → Domain
updated_of d p f leap =
    with_stored (with_pairing (with_update (with_base d (Some (new_base p f)))) None)
    (record { 0 = p.user0; 1 = p.user1; 2 = user_in f.protection }) f.sgw leap

-- ---- The update of a base, by what the record has beside it.
abbrev pub update_in : Domain → Option TimeBase → TimeBase → Update
update_in d old new =
    update_of d.settings.future_threshold d.settings.past_threshold d.settings.clear_count d.leap
    old new

abbrev pub taken_by : Update → Domain → Pair → Fup → DomainStep (Outcome Taken)
taken_by u d p f = record { answer = Ok u.answer; domain = updated_of d p f u.leap }

abbrev pub fup_as : Outcome Pair → Domain → Fup → DomainStep (Outcome Taken)
fup_as (Err refusal) d f = refused_of d refusal
fup_as (Ok p) d f = taken_by (update_in d d.base (new_base p f)) d p f

abbrev pub fup_of : Domain → VirtualLocalTime → Fup → DomainStep (Outcome Taken)
fup_of d t f = fup_as (joined_of d.settings.follow_up_time d.pairing t f) d f
