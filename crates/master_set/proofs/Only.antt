-- No two results satisfy the promise of F, as `F_only` for each public function F. No contract cites
-- this file.
-- Assumes nothing.
use Rattle.std.specs.Prelude.{⊤}
use Prim.Native.Nat.{ℕ}
use mathlib.Core.Path.{◌≡◌}
use Rattle.promise.specs.Only.{OnlyOne}
use Rattle.promise.proofs.Laws.{equation_only}
use Rattle.clock.specs.declared.reading.VirtualLocalTime.{VirtualLocalTime}
use Rattle.domain.specs.declared.Domain.{Domain}
use Rattle.master_set.specs.Set.{set_of}
use Rattle.domain.specs.declared.DomainStep.{DomainStep}
use Rattle.refusal.specs.Numbers.{Outcome, outcome_number}

pub set_time_only : (d : Domain) (t : VirtualLocalTime) (s n : ℕ) → OnlyOne (λ (r : DomainStep (Outcome ⊤)). r ≡ set_of d t s n)
set_time_only d t s n = equation_only _
