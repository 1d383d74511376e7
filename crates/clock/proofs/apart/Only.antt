-- No two results satisfy the promise of `compare`. No contract cites this file.
-- Assumes nothing.
use mathlib.Core.Path.{◌≡◌}
use Rattle.promise.specs.Only.{OnlyOne}
use Rattle.promise.proofs.Laws.{equation_only}
use Rattle.clock.specs.declared.time.GlobalTime.{GlobalTime}
use Rattle.clock.specs.declared.apart.Apart.{Apart}
use Rattle.clock.specs.Apart.{apart_of}

pub compare_only : (a b : GlobalTime) → OnlyOne (λ (r : Apart). r ≡ apart_of a b)
compare_only a b = equation_only _
