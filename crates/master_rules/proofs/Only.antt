-- No two results satisfy the promise of F, as `F_only` for each public function F. No contract cites
-- this file.
-- Assumes nothing.
use Rattle.std.specs.Prelude.{Option}
use Prim.Native.Nat.{ℕ}
use mathlib.Core.Path.{◌≡◌}
use Rattle.promise.specs.Only.{OnlyOne}
use Rattle.promise.proofs.Laws.{equation_only}
use Rattle.clock.specs.declared.reading.VirtualLocalTime.{VirtualLocalTime}
use Rattle.frame.specs.declared.values.Protection.{Protection}
use Rattle.settings.specs.declared.domain_settings.Role.{Role}
use Rattle.settings.specs.declared.domain_settings.Security.{Security}
use Rattle.domain.specs.declared.Sending.{Sending}
use Rattle.master_rules.specs.Due.{due_of}
use Rattle.master_rules.specs.Sent.{protection_of}
use Rattle.clock.specs.declared.base.TimeBase.{TimeBase}
use Rattle.master_rules.specs.declared.due.Due.{Due}

pub due_at_only :
    (role : Role) (p : ℕ) (base : Option TimeBase) (s : Sending) (t : VirtualLocalTime) →
    OnlyOne (λ (r : Option Due). r ≡ due_of role p base s t)
due_at_only role p base s t = equation_only _

pub protection_only : (security : Security) (user : ℕ) → OnlyOne (λ (r : Protection). r ≡ protection_of security user)
protection_only security user = equation_only _
