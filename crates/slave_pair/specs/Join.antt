-- Paper 01, "A slave's domain": the FUP and its pair. Assumes nothing.
use Rattle.std.specs.Prelude.{ℕ, Bool, not, cond, ltb, eqb, Err, None, Ok, Option, Some}
use Rattle.clock.specs.declared.reading.VirtualLocalTime.{VirtualLocalTime}
use Rattle.clock.specs.Reading.{span_of}
use Rattle.clock.specs.Time.{is_nanoseconds}
use Rattle.frame.specs.declared.values.Fup.{Fup}
use Rattle.refusal.specs.declared.Refusal.TheVariants.{NoOpenPair, FupCounter, Nanoseconds}
use Rattle.domain.specs.declared.Pair.{Pair}
use Rattle.refusal.specs.Numbers.{Outcome}

-- ---- "a pair must be open", and one "older than F counts as not open"; "the counter must be the
-- pair's, the nanoseconds must be in range": 7, 8, 9
abbrev pub is_old : (f : ℕ) → Pair → VirtualLocalTime → Bool
is_old f p t = ltb f (span_of p.at t)

abbrev pub is_other : Pair → Fup → Bool
is_other p fup = not (eqb fup.counter p.counter)

abbrev pub is_above : Fup → Bool
is_above fup = not (is_nanoseconds fup.nanoseconds)

abbrev pub joined_of : (f : ℕ) → Option Pair → VirtualLocalTime → Fup → Outcome Pair
joined_of f None t fup = Err NoOpenPair
joined_of f (Some p) t fup =
    cond (is_old f p t) (Err NoOpenPair)
    (cond (is_other p fup) (Err FupCounter)
    (cond (is_above fup) (Err Nanoseconds)
    (Ok p)))
