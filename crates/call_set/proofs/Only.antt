-- No two results satisfy the promise of F, as `F_only` for each public function F. No contract cites
-- this file.
-- Assumes nothing.
use Rattle.std.specs.Prelude.{⊤}
use Prim.Native.Nat.{ℕ}
use mathlib.Core.Path.{◌≡◌}
use Rattle.promise.specs.Only.{OnlyOne}
use Rattle.promise.proofs.Laws.{equation_only}
use Rattle.clock.specs.declared.reading.VirtualLocalTime.{VirtualLocalTime}
use Rattle.domain.specs.declared.Domain.{Domain}
use Rattle.call_set.specs.SetCall.{set_call_of}
use Rattle.domain.specs.declared.DomainCall.{DomainCall}
use Rattle.refusal.specs.Numbers.{Outcome}

pub set_call_only :
    (d : Domain) (kept : VirtualLocalTime) (asked : ℕ) (t : VirtualLocalTime) (s n : ℕ) →
    OnlyOne (λ (r : DomainCall (Outcome ⊤)). r ≡ set_call_of d kept asked t s n)
set_call_only d kept asked t s n = equation_only _
