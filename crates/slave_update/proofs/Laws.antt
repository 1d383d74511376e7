-- Laws of an update. No contract cites this file.
--   received_bound    a base from a pair and a FUP is at most what the paper allows
--   leap_exclusive    no D is a leap into the future and into the past
--   update_taken      an update is no refusal
-- Assumes nothing.
use Rattle.std.specs.Prelude.{None, Option, Some, Ok}
use Prim.Native.Nat.{ℕ, ◌≤◌}
use mathlib.Core.Path.{◌≡◌, refl}
use mathlib.Core.Bool.{true, false, and-false, false≢true}
use native.Mathlib.Omega.{arith}
use lib.IntN.{ℤ, pos, negsuc}
use Rattle.clock.specs.declared.base.TimeBase.{TimeBase}
use Rattle.clock.specs.Time.{IsReceived}
use Rattle.frame.specs.declared.values.Fup.{Fup}
use Rattle.domain.specs.declared.Pair.{Pair}
use Rattle.slave_update.specs.Leap.{is_future, is_past}
use Rattle.slave_update.specs.Update.{new_base, update_of}
use Rattle.domain.specs.declared.Leap.{Leap}
use Rattle.refusal.specs.Numbers.{outcome_number}

pub received_bound :
    (p : Pair) (f : Fup) → p.seconds ≤ 4294967295 → f.ovs ≤ 3 → f.nanoseconds ≤ 999999999 →
    IsReceived (new_base p f).time
received_bound p f hs ho hn = omega arith

pub leap_exclusive : (future past : ℕ) (d : ℤ) → is_future future d ≡ true → is_past past d ≡ false
leap_exclusive future past (pos m) e = simp (and-false)
leap_exclusive future past (negsuc m) e = absurd (false≢true (simp (and-false) at e))

pub update_taken :
    (future past count : ℕ) (held : Option Leap) (b : Option TimeBase) (new : TimeBase) →
    outcome_number (Ok (update_of future past count held b new).answer) ≡ 0
update_taken future past count held None new = refl
update_taken future past count held (Some old) new = refl
