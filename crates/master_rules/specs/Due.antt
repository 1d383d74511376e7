-- Paper 01, "A master's domain": when a domain is due. Assumes nothing.
use Rattle.std.specs.Prelude.{ℕ, Bool, true, false, cond, ◌&&◌, leb, None, Option, Some}
use Rattle.clock.specs.declared.reading.VirtualLocalTime.{VirtualLocalTime}
use Rattle.clock.specs.declared.time.GlobalTime.{GlobalTime}
use Rattle.clock.specs.Reading.{span_of}
use Rattle.clock.specs.Time.{most_set}
use Rattle.clock.specs.Base.{time_at}
use Rattle.settings.specs.declared.domain_settings.Role.{Role}
use Rattle.settings.specs.declared.domain_settings.Role.TheVariants.{Absent, Slave, Master}
use Rattle.domain.specs.declared.Sending.{Sending}
use Rattle.domain.specs.declared.Sending.TheVariants.{Never, Open, Confirmed}
use Rattle.clock.specs.declared.base.TimeBase.{TimeBase}
use Rattle.master_rules.specs.declared.due.Due.{Due}

abbrev pub is_master : Role → Bool
is_master Absent = false
is_master Slave = false
is_master Master = true

-- ---- "it has never sent or at least P has passed since it last sent"
abbrev pub has_waited : (p : ℕ) → Sending → VirtualLocalTime → Bool
has_waited p Never t = true
has_waited p (Open counter seconds nanoseconds at) t = leb p (span_of at t)
has_waited p (Confirmed at) t = leb p (span_of at t)

-- ---- "a domain is due if its base is set, its seconds at t are at most 4,294,967,295, and it has never
-- sent or at least P has passed since it last sent"; g is the base's time at t
abbrev pub due_with : Role → (p : ℕ) → GlobalTime → Sending → VirtualLocalTime → Bool
due_with role p g sending t = leb g.0 most_set && is_master role && has_waited p sending t

abbrev pub due_of : Role → (p : ℕ) → Option TimeBase → Sending → VirtualLocalTime → Option Due
due_of role p None sending t = None
due_of role p (Some b) sending t =
    cond (due_with role p (time_at b t) sending t) (Some (record { seconds = (time_at b t).0; nanoseconds = (time_at b t).1 })) None
