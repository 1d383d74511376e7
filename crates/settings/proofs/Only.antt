-- No two results satisfy the promise of F, as `F_only` for each public function F. No contract cites
-- this file.
-- Assumes nothing.
use mathlib.Core.Path.{◌≡◌}
use Rattle.promise.specs.Only.{OnlyOne}
use Rattle.promise.proofs.Laws.{equation_only}
use Rattle.settings.specs.declared.domain_settings.DomainSettings.{DomainSettings}
use Rattle.settings.specs.Domain.{absent_held, no_settings, held_of}

pub held_only : (s : DomainSettings) → OnlyOne (λ (r : DomainSettings). r ≡ held_of s)
held_only s = equation_only _

pub absent_only : OnlyOne (λ (r : DomainSettings). r ≡ absent_held)
absent_only = equation_only _

pub no_settings_only : OnlyOne (λ (r : DomainSettings). r ≡ no_settings)
no_settings_only = equation_only _
