-- Paper 01, "A slave's domain": status bits "as in 000". Assumes nothing.
use Rattle.std.specs.Prelude.{ℕ, ◌+◌, Bool, cond, ltb, None, Option, Some}
use Rattle.clock.specs.declared.reading.VirtualLocalTime.{VirtualLocalTime}
use Rattle.clock.specs.Reading.{span_of}
use Rattle.domain.specs.declared.Domain.{Domain}
use Rattle.clock.specs.declared.base.TimeBase.{TimeBase}
use Rattle.domain.specs.declared.Leap.{Leap}
use Rattle.domain.specs.declared.Leap.TheVariants.{Future, Past}

-- ---- "0x08 GLOBAL_TIME_BASE (base set)"; "TIMEOUT", 0x01, "shows on a slave whose base is set when
-- the reading is more than L after the base's T2"
abbrev pub base_bits : (l : ℕ) → Option TimeBase → VirtualLocalTime → ℕ
base_bits l None t = 0
base_bits l (Some b) t = cond (ltb l (span_of b.at t)) (0x08 + 0x01) 0x08

-- ---- "0x04 SYNC_TO_GATEWAY (the SGW of the last FUP taken)"
abbrev pub gateway_bit : Bool → ℕ
gateway_bit sgw = cond sgw 0x04 0

-- ---- "0x10 TIMELEAP_FUTURE, 0x20 TIMELEAP_PAST"
abbrev pub leap_bits : Option Leap → ℕ
leap_bits None = 0
leap_bits (Some (Future run)) = 0x10
leap_bits (Some (Past run)) = 0x20

abbrev pub status_bits : (l : ℕ) → Option TimeBase → Bool → Option Leap → VirtualLocalTime → ℕ
status_bits l base sgw leap t = base_bits l base t + gateway_bit sgw + leap_bits leap

abbrev pub status_of : Domain → VirtualLocalTime → ℕ
status_of d t = status_bits d.settings.loss_time d.base d.sgw d.leap t
