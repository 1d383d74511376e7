-- No two results satisfy the promise of F, as `F_only` for each public function F. No contract cites
-- this file.
-- Assumes nothing.
use Rattle.std.specs.Prelude.{Option}
use mathlib.Core.Path.{◌≡◌}
use mathlib.Core.Bool.{Bool}
use Rattle.promise.specs.Only.{OnlyOne}
use Rattle.promise.proofs.Laws.{equation_only}
use Rattle.clock.specs.declared.reading.VirtualLocalTime.{VirtualLocalTime}
use Rattle.domain.specs.declared.Domain.{Domain}
use Rattle.master_send.specs.Send.{is_due, send_of}
use Rattle.domain.specs.declared.DomainStep.{DomainStep}
use Rattle.frame.specs.declared.values.Sync.{Sync}

pub is_due_only : (d : Domain) (t : VirtualLocalTime) → OnlyOne (λ (r : Bool). r ≡ is_due d t)
is_due_only d t = equation_only _

pub send_only : (d : Domain) (t : VirtualLocalTime) → OnlyOne (λ (r : DomainStep (Option Sync)). r ≡ send_of d t)
send_only d t = equation_only _
