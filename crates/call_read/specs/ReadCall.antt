-- Paper 01: a read of one record: 1, 4 (`admitted_of`), 10. Assumes nothing.
use Rattle.std.specs.Prelude.{ℕ, Err, None, Ok, Option, Some, ⊤}
use Rattle.clock.specs.declared.reading.VirtualLocalTime.{VirtualLocalTime}
use Rattle.clock.specs.declared.base.TimeBase.{TimeBase}
use Rattle.clock.specs.Base.{time_at}
use Rattle.refusal.specs.declared.Refusal.TheVariants.{NeverSet}
use Rattle.settings.specs.declared.domain_settings.Role.{Role}
use Rattle.settings.specs.declared.domain_settings.Role.TheVariants.{Absent, Slave, Master}
use Rattle.settings.specs.declared.domain_settings.UserBytes.{UserBytes}
use Rattle.admission.specs.declared.Needed.TheVariants.{Either}
use Rattle.admission.specs.Admission.{admitted_of}
use Rattle.domain.specs.declared.Domain.{Domain}
use Rattle.slave_status.specs.Status.{status_of}
use Rattle.call_read.specs.declared.Shown.{Shown}
use Rattle.refusal.specs.Numbers.{Outcome}

-- ---- A master: "status 0x08", "A read gives the settings' user bytes."
abbrev pub status_for : Role → ℕ → ℕ
status_for Absent status = status
status_for Slave status = status
status_for Master status = 0x08

abbrev pub user_for : Role → (sent stored : UserBytes) → UserBytes
user_for Absent sent stored = stored
user_for Slave sent stored = stored
user_for Master sent stored = sent

-- ---- "A read gives time, status, user bytes and update counter together"
abbrev pub shown_of : Domain → TimeBase → VirtualLocalTime → Shown
shown_of d b t =
    record {
      time = time_at b t;
      status = status_for d.settings.role (status_of d t);
      user = user_for d.settings.role d.settings.user d.user;
      updates = d.updates;
    }

abbrev pub read_as : Option TimeBase → Domain → VirtualLocalTime → Outcome Shown
read_as None d t = Err NeverSet
read_as (Some b) d t = Ok (shown_of d b t)

abbrev pub read_call_as : Outcome ⊤ → Domain → VirtualLocalTime → Outcome Shown
read_call_as (Err refusal) d t = Err refusal
read_call_as (Ok tt) d t = read_as d.base d t

abbrev pub read_call_of : Domain → (kept : VirtualLocalTime) (asked : ℕ) (t : VirtualLocalTime) → Outcome Shown
read_call_of d kept asked t =
    read_call_as (admitted_of kept t d.number d.settings.role asked Either) d t
