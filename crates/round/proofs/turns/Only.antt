-- No two results satisfy the promise of F, as `F_only` for each public function F. No contract cites
-- this file.
-- Assumes nothing.
use Rattle.std.specs.Prelude.{Option}
use Prim.Native.Nat.{ℕ}
use mathlib.Core.Path.{◌≡◌}
use mathlib.Core.Bool.{Bool}
use Rattle.promise.specs.Only.{OnlyOne}
use Rattle.promise.proofs.Laws.{equation_only}
use Rattle.clock.specs.declared.reading.VirtualLocalTime.{VirtualLocalTime}
use Rattle.domain.specs.declared.Domain.{Domain}
use Rattle.round.specs.Turn.{turn_of, next_after}
use Rattle.domain.specs.declared.DomainStep.{DomainStep}
use Rattle.frame.specs.declared.values.Sync.{Sync}

pub turn_only :
    (maySend : Bool) (d : Domain) (t : VirtualLocalTime) → OnlyOne (λ (r : DomainStep (Option Sync)). r ≡ turn_of maySend d t)
turn_only maySend d t = equation_only _

pub next_after_only : (answer : Option Sync) (at next : ℕ) → OnlyOne (λ (r : ℕ). r ≡ next_after answer at next)
next_after_only answer at next = equation_only _
