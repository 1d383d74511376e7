-- Laws of the two clocks, in the order of the definitions. No contract cites this file.
--   carry_exact        the carry loses nothing where the seconds fit, at every width of the seconds
--   carry_wider        and is then the same at every greater width
--   carry_bound        carried seconds fit their width
--   advance_exact      a time a span later is that many nanoseconds later, where the seconds fit
--   advance_add        two spans one after the other are their sum
--   advance_good       a time a span later has nanoseconds in range
--   time_later         a base's time at a later reading is the earlier time plus the span
--   time_exact         a base's time at t, in the range of the paper, is its time plus t minus its reading
--   read_bound         and is at most what the paper allows for a read time
--   within_told        a time that passes the test of a range is within it
--   within_is          and one within it passes
-- Assumes nothing.
use Prim.Native.Nat.{ℕ, ◌+◌, ◌*◌, ◌/◌, ◌%◌, ◌^◌, ◌≤◌, ◌<◌}
use mathlib.Core.Path.{◌≡◌, refl, sym, ap, ap₂, ◌∙◌}
use mathlib.Core.Bool.{true}
use native.Mathlib.Omega.{arith}
use lib.Pow.{pow_mono, pow_pos}
use lib.Dec.{leb}
use borrow.Author.Tests.{leb-true, le-leb}
use Rattle.promise.proofs.Tests.{both}
use Rattle.clock.specs.declared.reading.VirtualLocalTime.{VirtualLocalTime}
use Rattle.clock.specs.declared.time.GlobalTime.{GlobalTime}
use Rattle.clock.specs.declared.base.TimeBase.{TimeBase}
use Rattle.clock.specs.Reading.{span_of}
use Rattle.clock.specs.Time.{
  time_of,
  nanoseconds_of,
  is_time,
  is_within,
  Within,
  IsReceived,
  IsRead,
  carried,
  advanced,
}
use Rattle.clock.specs.Base.{time_at}

-- ---- the carry, over the width w of the seconds

pub carry_exact :
    (w s n : ℕ) → s + n / 1000000000 < 2 ^ w →
    carried w s n * 1000000000 + n % 1000000000 ≡ s * 1000000000 + n
carry_exact w s n h = omega arith

pub carry_wider :
    (v w s n : ℕ) → v ≤ w → s + n / 1000000000 < 2 ^ v → carried w s n ≡ carried v s n
carry_wider v w s n le h = omega (arith, pow_mono le)

pub carry_bound : (w s n : ℕ) → carried w s n < 2 ^ w
carry_bound w s n = omega (arith, pow_pos w)

-- ---- a span later

pub advance_exact :
    (g : GlobalTime) (span : ℕ) → g.0 + (g.1 + span) / 1000000000 < 2 ^ 64 →
    nanoseconds_of (advanced g span) ≡ nanoseconds_of g + span
advance_exact g span h = omega (arith, carry_exact 64 g.0 (g.1 + span) h)

pub advance_good : (g : GlobalTime) (span : ℕ) → (advanced g span).1 ≤ 999999999
advance_good g span = omega arith

pub advance_add : (g : GlobalTime) (a b : ℕ) → advanced (advanced g a) b ≡ advanced g (a + b)
advance_add g a b = ap₂ time_of (omega arith) (omega arith)

-- ---- a base's time

pub time_later :
    (b : TimeBase) (t u : VirtualLocalTime) → b.at.0 ≤ t.0 → t.0 ≤ u.0 →
    time_at b u ≡ advanced (time_at b t) (span_of t u)
time_later b t u from to =
    ap (advanced b.time) (omega arith)
    ∙ sym (advance_add b.time (span_of b.at t) (span_of t u))

module _ (b : TimeBase) (t : VirtualLocalTime) (good : IsReceived b.time)
    (in_range : t.0 ≤ 1000000000000000000) where
  pub time_exact : nanoseconds_of (time_at b t) ≡ nanoseconds_of b.time + span_of b.at t
  time_exact = advance_exact b.time (span_of b.at t) (omega arith)

  pub read_bound : IsRead (time_at b t)
  read_bound = omega arith

-- ---- the ranges

module _ (seconds : ℕ) (g : GlobalTime) where
  pub within_told : is_within seconds g ≡ true → Within seconds g
  within_told e =
      let told = both (leb g.0 seconds) (is_time g) e in
      record { whole = leb-true _ _ told.0; part = leb-true _ _ told.1 }

  pub within_is : Within seconds g → is_within seconds g ≡ true
  within_is w = rw (le-leb _ _ w.whole, le-leb _ _ w.part) refl
