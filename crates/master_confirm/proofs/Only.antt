-- No two results satisfy the promise of F, as `F_only` for each public function F. No contract cites
-- this file.
-- Assumes nothing.
use Prim.Native.Nat.{ℕ}
use mathlib.Core.Path.{◌≡◌}
use mathlib.Core.Bool.{Bool}
use Rattle.promise.specs.Only.{OnlyOne}
use Rattle.promise.proofs.Laws.{equation_only}
use Rattle.clock.specs.declared.reading.VirtualLocalTime.{VirtualLocalTime}
use Rattle.domain.specs.declared.Domain.{Domain}
use Rattle.master_confirm.specs.Confirm.{confirm_of}
use Rattle.domain.specs.declared.DomainStep.{DomainStep}
use Rattle.frame.specs.declared.values.Fup.{Fup}
use Rattle.refusal.specs.Numbers.{Outcome, outcome_number}

pub confirm_only :
    (d : Domain) (t : VirtualLocalTime) (counter : ℕ) (room : Bool) →
    OnlyOne (λ (r : DomainStep (Outcome Fup)). r ≡ confirm_of d t counter room)
confirm_only d t counter room = equation_only _
