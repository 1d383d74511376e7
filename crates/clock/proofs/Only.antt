-- No two results satisfy the promise of F, as `F_only` for each public function F. No contract cites
-- this file.
-- Assumes nothing.
use Prim.Native.Nat.{ℕ}
use mathlib.Core.Path.{◌≡◌}
use mathlib.Core.Bool.{Bool}
use Rattle.promise.specs.Only.{OnlyOne}
use Rattle.promise.proofs.Laws.{equation_only}
use Rattle.clock.specs.declared.reading.VirtualLocalTime.{VirtualLocalTime}
use Rattle.clock.specs.declared.time.GlobalTime.{GlobalTime}
use Rattle.clock.specs.declared.base.TimeBase.{TimeBase}
use Rattle.clock.specs.Reading.{is_reading, span_of}
use Rattle.clock.specs.declared.over.Over.{Over}
use Rattle.clock.specs.Over.{over_of}
use Rattle.clock.specs.Time.{is_time, is_within, most_received, most_read, advanced}
use Rattle.clock.specs.Base.{base_of, time_at}

pub is_reading_only : (t : VirtualLocalTime) → OnlyOne (λ (r : Bool). r ≡ is_reading t)
is_reading_only t = equation_only _

pub since_only : (t earlier : VirtualLocalTime) → OnlyOne (λ (r : ℕ). r ≡ span_of earlier t)
since_only t earlier = equation_only _

pub is_time_only : (g : GlobalTime) → OnlyOne (λ (r : Bool). r ≡ is_time g)
is_time_only g = equation_only _

pub is_received_only : (g : GlobalTime) → OnlyOne (λ (r : Bool). r ≡ is_within most_received g)
is_received_only g = equation_only _

pub is_read_only : (g : GlobalTime) → OnlyOne (λ (r : Bool). r ≡ is_within most_read g)
is_read_only g = equation_only _

pub advance_only : (g : GlobalTime) (span : ℕ) → OnlyOne (λ (r : GlobalTime). r ≡ advanced g span)
advance_only g span = equation_only _

pub new_only : (g : GlobalTime) (r : VirtualLocalTime) → OnlyOne (λ (b : TimeBase). b ≡ base_of g r)
new_only g r = equation_only _

pub time_at_only : (b : TimeBase) (t : VirtualLocalTime) → OnlyOne (λ (r : GlobalTime). r ≡ time_at b t)
time_at_only b t = equation_only _

pub carried_over_only : (nanoseconds span : ℕ) → OnlyOne (λ (r : Over). r ≡ over_of nanoseconds span)
carried_over_only nanoseconds span = equation_only _
