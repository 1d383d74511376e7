-- No two results satisfy the promise of F, as `F_only` for each public function F. No contract cites
-- this file.
-- Assumes nothing.
use Prim.Native.Nat.{ℕ}
use mathlib.Core.Path.{◌≡◌}
use mathlib.Core.Bool.{Bool}
use lib.IntN.{ℤ, nat_abs}
use Rattle.promise.specs.Only.{OnlyOne}
use Rattle.promise.proofs.Laws.{equation_only}
use Rattle.clock.specs.declared.reading.VirtualLocalTime.{VirtualLocalTime}
use Rattle.clock.specs.declared.time.GlobalTime.{GlobalTime}
use Rattle.clock.specs.declared.base.TimeBase.{TimeBase}
use Rattle.std.specs.declared.cmp.Ordering.{Ordering}
use Rattle.clock.specs.Base.{time_at}
use Rattle.clock.specs.Difference.{order_of, difference_of, exceeds, minus_exceeds}

pub order_only : (a b : GlobalTime) → OnlyOne (λ (r : Ordering). r ≡ order_of a b)
order_only a b = equation_only _

pub minus_only : (a b : GlobalTime) → OnlyOne (λ (r : ℤ). r ≡ difference_of a b)
minus_only a b = equation_only _

pub minus_at_only :
    (a : GlobalTime) (b : TimeBase) (t : VirtualLocalTime) → OnlyOne (λ (r : ℤ). r ≡ difference_of a (time_at b t))
minus_at_only a b t = equation_only _

pub magnitude_only : (d : ℤ) → OnlyOne (λ (r : ℕ). r ≡ nat_abs d)
magnitude_only d = equation_only _

pub exceeds_only : (d : ℤ) (threshold : ℕ) → OnlyOne (λ (r : Bool). r ≡ exceeds d threshold)
exceeds_only d threshold = equation_only _

pub minus_exceeds_only : (d : ℤ) (threshold : ℕ) → OnlyOne (λ (r : Bool). r ≡ minus_exceeds d threshold)
minus_exceeds_only d threshold = equation_only _
