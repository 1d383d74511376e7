-- What `compare` tells of two times. No contract cites this file.
--   ahead, behind            which case of `apart_of` holds
--   told_ahead, told_behind  what that case says of the two times
-- Assumes nothing.
use Prim.Native.Nat.{ℕ, suc, ◌-◌, ◌≤◌, ◌<◌}
use mathlib.Core.Path.{◌≡◌, refl, ap}
use mathlib.Core.Bool.{Bool, true, false, cond}
use native.Mathlib.Omega.{arith}
use lib.Dec.{ltb}
use borrow.Author.Tests.{le-ltb, lt-ltb, ltb-true, ltb-false}
use Rattle.clock.specs.declared.time.GlobalTime.{GlobalTime}
use Rattle.clock.specs.declared.apart.Apart.TheVariants.{Ahead, Behind}
use Rattle.clock.specs.Apart.{apart_of, held_span}
use Rattle.clock.specs.Time.{nanoseconds_of}

pub record AheadBy (a b : GlobalTime) (m : ℕ) : Type 0 where
  pub from : nanoseconds_of b ≤ nanoseconds_of a
  pub by : m ≡ held_span (nanoseconds_of a - nanoseconds_of b)

pub record BehindBy (a b : GlobalTime) (m : ℕ) : Type 0 where
  pub from : nanoseconds_of a < nanoseconds_of b
  pub by : m ≡ held_span (nanoseconds_of b - suc (nanoseconds_of a))

module _ (a b : GlobalTime) (m : ℕ) where
  pub ahead : AheadBy a b m → Ahead m ≡ apart_of a b
  ahead h = rw (le-ltb (nanoseconds_of a) (nanoseconds_of b) h.from) (ap Ahead h.by)

  pub behind : BehindBy a b m → Behind m ≡ apart_of a b
  behind h = rw (lt-ltb (nanoseconds_of a) (nanoseconds_of b) h.from) (ap Behind h.by)

  pub told_ahead : Ahead m ≡ apart_of a b → AheadBy a b m
  told_ahead = go (ltb (nanoseconds_of a) (nanoseconds_of b)) refl
    where
      go :
          (β : Bool) → ltb (nanoseconds_of a) (nanoseconds_of b) ≡ β →
          Ahead m ≡ cond β
          (Behind (held_span (nanoseconds_of b - suc (nanoseconds_of a))))
          (Ahead (held_span (nanoseconds_of a - nanoseconds_of b))) →
          AheadBy a b m
      go true w e = let z : ◌≡◌ {A = ℕ} 0 1 = cc in absurd (omega arith)
      go false w e = record { from = ltb-false _ _ w; by = cc }

  pub told_behind : Behind m ≡ apart_of a b → BehindBy a b m
  told_behind = go (ltb (nanoseconds_of a) (nanoseconds_of b)) refl
    where
      go :
          (β : Bool) → ltb (nanoseconds_of a) (nanoseconds_of b) ≡ β →
          Behind m ≡ cond β
          (Behind (held_span (nanoseconds_of b - suc (nanoseconds_of a))))
          (Ahead (held_span (nanoseconds_of a - nanoseconds_of b))) →
          BehindBy a b m
      go true w e = record { from = ltb-true _ _ w; by = cc }
      go false w e = let z : ◌≡◌ {A = ℕ} 0 1 = cc in absurd (omega arith)
