-- No two results satisfy the promise of F, as `F_only` for each public function F. No contract cites
-- this file.
-- Assumes nothing.
use Rattle.std.specs.Prelude.{Option}
use Prim.Native.Nat.{ℕ}
use mathlib.Core.Path.{◌≡◌}
use lib.IntN.{ℤ}
use Rattle.promise.specs.Only.{OnlyOne}
use Rattle.promise.proofs.Laws.{equation_only}
use Rattle.clock.specs.declared.base.TimeBase.{TimeBase}
use Rattle.frame.specs.declared.values.Fup.{Fup}
use Rattle.domain.specs.declared.Pair.{Pair}
use Rattle.slave_update.specs.declared.update.Update.{Update}
use Rattle.slave_update.specs.Leap.{leap_after}
use Rattle.slave_update.specs.Update.{new_base, update_of}
use Rattle.domain.specs.declared.Leap.{Leap}

pub leap_after_only :
    (future past count : ℕ) (held : Option Leap) (d : ℤ) →
    OnlyOne (λ (r : Option Leap). r ≡ leap_after future past count held d)
leap_after_only future past count held d = equation_only _

pub new_base_only : (p : Pair) (f : Fup) → OnlyOne (λ (r : TimeBase). r ≡ new_base p f)
new_base_only p f = equation_only _

pub update_by_only :
    (future past count : ℕ) (held : Option Leap) (old : Option TimeBase) (new : TimeBase) →
    OnlyOne (λ (r : Update). r ≡ update_of future past count held old new)
update_by_only future past count held old new = equation_only _
