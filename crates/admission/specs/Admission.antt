-- Paper 01, "Refusal numbers": 1 and 4, "in the order of the numbers". Assumes nothing.
use Rattle.std.specs.Prelude.{ℕ, Bool, true, false, cond, ◌&&◌, eqb, Err, Ok, ⊤}
use Rattle.clock.specs.declared.reading.VirtualLocalTime.{VirtualLocalTime}
use Rattle.refusal.specs.declared.Refusal.TheVariants.{Reading, Domain}
use Rattle.settings.specs.declared.domain_settings.Role.{Role}
use Rattle.settings.specs.declared.domain_settings.Role.TheVariants.{Absent, Slave, Master}
use Rattle.admission.specs.declared.Needed.{Needed}
use Rattle.admission.specs.declared.Needed.TheVariants.{Slave as slave, Master as master, Either as either}
use Rattle.admission.specs.Reading.{is_good_reading}
use Rattle.refusal.specs.Numbers.{Outcome}

-- ---- "not in the role needed (frame: slave; set, confirmation: master; read: either)"
abbrev pub is_in : Role → Needed → Bool
is_in Absent needed = false
is_in Slave slave = true
is_in Slave master = false
is_in Slave either = true
is_in Master slave = false
is_in Master master = true
is_in Master either = true

-- ---- 4 for a record: it is not that of the domain asked for, or not in the role needed
abbrev pub is_for : (own : ℕ) → Role → (asked : ℕ) → Needed → Bool
is_for own role asked needed = eqb asked own && is_in role needed

-- ---- read, set, confirmation: 1, 4
abbrev pub admitted_of : (kept t : VirtualLocalTime) (own : ℕ) → Role → (asked : ℕ) → Needed → Outcome ⊤
admitted_of kept t own role asked needed =
    cond (is_good_reading kept t) (cond (is_for own role asked needed) (Ok tt) (Err Domain))
    (Err Reading)
