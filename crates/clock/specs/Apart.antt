-- How far two global times stand apart, held within 63 bits. Assumes nothing.
use Rattle.std.specs.Prelude.{ℕ, suc, ◌-◌, ◌*◌, ◌^◌, min, cond, ltb}
use Rattle.clock.specs.declared.time.GlobalTime.{GlobalTime}
use Rattle.clock.specs.declared.apart.Apart.{Apart}
use Rattle.clock.specs.declared.apart.Apart.TheVariants.{Ahead, Behind}
use Rattle.clock.specs.Time.{nanoseconds_of}

abbrev pub held_span : ℕ → ℕ
held_span m = min m (2 ^ 63 - 1)

abbrev pub near_span : ℕ → ℕ
near_span s = min s 11000000000 * 1000000000

abbrev pub apart_of : GlobalTime → GlobalTime → Apart
apart_of a b =
    cond (ltb (nanoseconds_of a) (nanoseconds_of b))
    (Behind (held_span (nanoseconds_of b - suc (nanoseconds_of a))))
    (Ahead (held_span (nanoseconds_of a - nanoseconds_of b)))
