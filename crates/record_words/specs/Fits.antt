-- What the types of a record's fields say of the numbers that share a word. Assumes nothing.
use Rattle.std.specs.Prelude.{ℕ, ◌<◌, ◌≡◌, List, length, get_or, None, Option, Some}
use Rattle.settings.specs.declared.domain_settings.DomainSettings.{DomainSettings}
use Rattle.settings.specs.declared.domain_settings.UserBytes.{UserBytes}
use Rattle.domain.specs.declared.LastSync.{LastSync}
use Rattle.domain.specs.declared.LastSync.TheVariants.{Unknown, Seen}
use Rattle.domain.specs.declared.Sending.{Sending}
use Rattle.domain.specs.declared.Sending.TheVariants.{Never, Open as sent, Confirmed}
use Rattle.domain.specs.declared.Domain.{Domain}
use Rattle.clock.specs.declared.base.TimeBase.{TimeBase}
use Rattle.domain.specs.declared.Leap.{Leap}
use Rattle.domain.specs.declared.Leap.TheVariants.{Future, Past}
use Rattle.domain.specs.declared.Pair.{Pair}

abbrev pub PairingFits : Option Pair → Type 0
PairingFits None = Unit {0}
PairingFits (Some p) = (p.seconds < 4294967296) × (p.counter < 256) × (p.user0 < 256) × (p.user1 < 256)

abbrev pub LastFits : LastSync → Type 0
LastFits Unknown = Unit {0}
LastFits (Seen counter row at) = (counter < 256) × (row < 256)

abbrev pub HeldFits : Option TimeBase → Type 0
HeldFits None = Unit {0}
HeldFits (Some base) = base.time.1 < 4294967296

abbrev pub LeapFits : Option Leap → Type 0
LeapFits None = Unit {0}
LeapFits (Some (Future run)) = run < 256
LeapFits (Some (Past run)) = run < 256

abbrev pub SendingFits : Sending → Type 0
SendingFits Never = Unit {0}
SendingFits (sent counter seconds nanoseconds at) =
    (counter < 256) × (seconds < 4294967296) × (nanoseconds < 4294967296)
SendingFits (Confirmed at) = Unit {0}

abbrev pub UserFits : UserBytes → Type 0
UserFits u = (u.0 < 256) × (u.1 < 256) × (u.2 < 256)

-- ---- Sixteen bytes.
pub record IdsFit (l : List ℕ) : Type 0 where
  pub sixteen : length l ≡ 16
  pub bytes : (k : ℕ) → get_or l k 0 < 256

pub record SettingsFit (s : DomainSettings) : Type 0 where
  pub confirmation : s.confirmation_time < 4294967296
  pub jump : s.jump_width < 256
  pub hysteresis : s.hysteresis < 256
  pub count : s.clear_count < 256
  pub user : UserFits s.user
  pub sync : IdsFit s.ids.sync
  pub fup : IdsFit s.ids.fup

pub record StateFits (d : Domain) : Type 0 where
  pub base : HeldFits d.base
  pub pairing : PairingFits d.pairing
  pub last : LastFits d.last
  pub leap : LeapFits d.leap
  pub sending : SendingFits d.sending
  pub user : UserFits d.user
  pub updates : d.updates < 256
  pub next : d.next_counter < 256
