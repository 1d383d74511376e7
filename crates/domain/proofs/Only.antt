-- No two results satisfy the promise of F, as `F_only` for each public function F. No contract cites
-- this file.
-- Assumes nothing.
use Prim.Native.Nat.{ℕ}
use mathlib.Core.Path.{◌≡◌}
use Rattle.promise.specs.Only.{OnlyOne}
use Rattle.promise.proofs.Laws.{equation_only}
use Rattle.settings.specs.declared.domain_settings.DomainSettings.{DomainSettings}
use Rattle.domain.specs.declared.Domain.{Domain}
use Rattle.domain.specs.Fresh.{fresh_of}
use Rattle.domain.specs.Updates.{next_update}

pub new_only : (number : ℕ) (settings : DomainSettings) → OnlyOne (λ (r : Domain). r ≡ fresh_of number settings)
new_only number settings = equation_only _

pub next_update_only : (updates : ℕ) → OnlyOne (λ (r : ℕ). r ≡ next_update updates)
next_update_only updates = equation_only _
