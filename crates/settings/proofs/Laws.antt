-- Laws of the settings. No contract cites this file.
--   held_twice        what is held is held as it is
-- Assumes nothing.
use mathlib.Core.Path.{◌≡◌, refl}
use Rattle.settings.specs.declared.domain_settings.DomainSettings.{DomainSettings}
use Rattle.settings.specs.declared.domain_settings.Role.{Role}
use Rattle.settings.specs.declared.domain_settings.Role.TheVariants.{Absent, Slave, Master}
use Rattle.settings.specs.Domain.{held_as, held_of}

held_as_lem : (r : Role) (s : DomainSettings) → held_of (held_as r s) ≡ held_as r s
held_as_lem Absent s = refl
held_as_lem Slave s = refl
held_as_lem Master s = refl

pub held_twice : (s : DomainSettings) → held_of (held_of s) ≡ held_of s
held_twice s = held_as_lem s.role s
