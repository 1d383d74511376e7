-- No two results satisfy the promise of F, as `F_only` for each public function F. No contract cites
-- this file.
-- Assumes nothing.
use mathlib.Core.Path.{◌≡◌}
use Rattle.promise.specs.Only.{OnlyOne}
use Rattle.promise.proofs.Laws.{equation_only}
use Rattle.clock.specs.declared.reading.VirtualLocalTime.{VirtualLocalTime}
use Rattle.frame.specs.declared.values.Sync.{Sync}
use Rattle.domain.specs.declared.Domain.{Domain}
use Rattle.slave_sync.specs.Sync.{sync_of}
use Rattle.domain.specs.declared.DomainStep.{DomainStep}
use Rattle.refusal.specs.Numbers.{Outcome}
use Rattle.slave_answer.specs.declared.Taken.{Taken}

pub take_sync_only : (d : Domain) (t : VirtualLocalTime) (s : Sync) → OnlyOne (λ (r : DomainStep (Outcome Taken)). r ≡ sync_of d t s)
take_sync_only d t s = equation_only _
