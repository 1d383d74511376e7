-- No two results satisfy the promise of F, as `F_only` for each public function F. No contract cites
-- this file.
-- Assumes nothing.
use Rattle.std.specs.Prelude.{Option}
use Prim.Native.Nat.{ℕ}
use mathlib.Core.Path.{◌≡◌}
use Rattle.promise.specs.Only.{OnlyOne}
use Rattle.promise.proofs.Laws.{equation_only}
use Rattle.clock.specs.declared.reading.VirtualLocalTime.{VirtualLocalTime}
use Rattle.frame.specs.declared.values.Protection.{Protection}
use Rattle.frame.specs.declared.values.Sync.{Sync}
use Rattle.frame.specs.declared.values.Fup.{Fup}
use Rattle.domain.specs.declared.Pair.{Pair}
use Rattle.slave_pair.specs.Pair.{user_in, pair_of}
use Rattle.slave_pair.specs.Join.{joined_of}
use Rattle.refusal.specs.Numbers.{Outcome}

pub user_in_only : (p : Protection) → OnlyOne (λ (r : ℕ). r ≡ user_in p)
user_in_only p = equation_only _

pub pair_of_only : (t : VirtualLocalTime) (s : Sync) → OnlyOne (λ (r : Pair). r ≡ pair_of t s)
pair_of_only t s = equation_only _

pub join_only :
    (f : ℕ) (p : Option Pair) (t : VirtualLocalTime) (fup : Fup) → OnlyOne (λ (r : Outcome Pair). r ≡ joined_of f p t fup)
join_only f p t fup = equation_only _
