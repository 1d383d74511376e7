-- No two results satisfy the promise of F, as `F_only` for each public function F. No contract cites
-- this file.
-- Assumes nothing.
use Prim.Native.Nat.{ℕ}
use mathlib.Core.Path.{◌≡◌}
use mathlib.Core.List.{List}
use Rattle.promise.specs.Only.{OnlyOne}
use Rattle.promise.proofs.Laws.{equation_only}
use Rattle.clock.specs.declared.reading.VirtualLocalTime.{VirtualLocalTime}
use Rattle.frame.specs.declared.values.Frame.{Frame}
use Rattle.domain.specs.declared.Domain.{Domain}
use Rattle.slave_frame.specs.Step.{frame_of}
use Rattle.domain.specs.declared.DomainStep.{DomainStep}
use Rattle.refusal.specs.Numbers.{Outcome}
use Rattle.slave_answer.specs.declared.Taken.{Taken}

pub take_frame_only :
    (d : Domain) (t : VirtualLocalTime) (bytes : List ℕ) (values : Frame) →
    OnlyOne (λ (r : DomainStep (Outcome Taken)). r ≡ frame_of d t bytes values)
take_frame_only d t bytes values = equation_only _
