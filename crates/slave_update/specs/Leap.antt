-- Paper 01, "A slave's domain": the leap bits; and paper 02, request 3: how long they show. Assumes nothing.
use Rattle.std.specs.Prelude.{ℕ, ◌+◌, Bool, not, cond, ◌&&◌, eqb, ltb, ℤ, None, Option, Some}
use Rattle.clock.specs.Difference.{exceeds, minus_exceeds}
use Rattle.domain.specs.declared.Leap.{Leap}
use Rattle.domain.specs.declared.Leap.TheVariants.{Future, Past}

-- ---- "FUTURE is set exactly if its threshold is not 0 and D exceeds it, PAST exactly if its threshold
-- is not 0 and minus D exceeds it"
abbrev pub is_future : (threshold : ℕ) → ℤ → Bool
is_future threshold d = not (eqb threshold 0) && exceeds d threshold

abbrev pub is_past : (threshold : ℕ) → ℤ → Bool
is_past threshold d = not (eqb threshold 0) && minus_exceeds d threshold

-- ---- Request 3: "that many updates in a row must lie within both thresholds (0 always counts) first". The leap held,
-- after one more of them.
abbrev pub calmer : (count : ℕ) → Option Leap → Option Leap
calmer count None = None
calmer count (Some (Future run)) = cond (ltb (run + 1) count) (Some (Future (run + 1))) None
calmer count (Some (Past run)) = cond (ltb (run + 1) count) (Some (Past (run + 1))) None

-- ---- "a leap sets its own bit, clears the other and sets the run to 0". The leap after any update, by its D.
abbrev pub leap_after : (future past count : ℕ) → Option Leap → ℤ → Option Leap
leap_after future past count held d =
    cond (is_future future d) (Some (Future 0)) (cond (is_past past d) (Some (Past 0)) (calmer count held))
