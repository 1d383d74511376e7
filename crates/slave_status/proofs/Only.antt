-- No two results satisfy the promise of F, as `F_only` for each public function F. No contract cites
-- this file.
-- Assumes nothing.
use Rattle.std.specs.Prelude.{Option}
use Prim.Native.Nat.{ℕ}
use mathlib.Core.Path.{◌≡◌}
use mathlib.Core.Bool.{Bool}
use Rattle.promise.specs.Only.{OnlyOne}
use Rattle.promise.proofs.Laws.{equation_only}
use Rattle.clock.specs.declared.reading.VirtualLocalTime.{VirtualLocalTime}
use Rattle.domain.specs.declared.Domain.{Domain}
use Rattle.slave_status.specs.Status.{status_bits, status_of}
use Rattle.clock.specs.declared.base.TimeBase.{TimeBase}
use Rattle.domain.specs.declared.Leap.{Leap}

pub status_of_only :
    (l : ℕ) (base : Option TimeBase) (sgw : Bool) (leap : Option Leap) (t : VirtualLocalTime) →
    OnlyOne (λ (r : ℕ). r ≡ status_bits l base sgw leap t)
status_of_only l base sgw leap t = equation_only _

pub status_at_only : (d : Domain) (t : VirtualLocalTime) → OnlyOne (λ (r : ℕ). r ≡ status_of d t)
status_at_only d t = equation_only _
