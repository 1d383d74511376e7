-- No two results satisfy the promise of `is_good`. No contract cites this file.
-- Assumes nothing.
use mathlib.Core.Path.{◌≡◌}
use mathlib.Core.Bool.{Bool}
use Rattle.promise.specs.Only.{OnlyOne}
use Rattle.promise.proofs.Laws.{equation_only}
use Rattle.settings.specs.declared.domain_settings.DomainSettings.{DomainSettings}
use Rattle.settings.specs.Ranges.{is_good}

pub is_good_only : (s : DomainSettings) → OnlyOne (λ (r : Bool). r ≡ is_good s)
is_good_only s = equation_only _
