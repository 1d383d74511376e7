-- No two results satisfy the promise of F, as `F_only` for each public function F. A result with a lent record is a
-- pair of both. No contract cites this file.
-- Assumes nothing.
use Prim.Native.Nat.{ℕ}
use mathlib.Core.Path.{◌≡◌, sym, ◌∙◌}
use mathlib.Core.List.{List}
use Rattle.promise.specs.Only.{OnlyOne}
use Rattle.promise.proofs.Laws.{equation_only}
use Rattle.clock.specs.declared.reading.VirtualLocalTime.{VirtualLocalTime}
use Rattle.domain.specs.declared.Domain.{Domain}
use Rattle.call_frame.specs.FrameCall.{frame_call_of}
use Rattle.lent_frame.specs.declared.LentFrame.{LentFrame}
use Rattle.lent_frame.specs.Lent.{TakenOn}
use Rattle.domain.specs.declared.DomainCall.{DomainCall}
use Rattle.refusal.specs.Numbers.{Outcome}
use Rattle.slave_answer.specs.declared.Taken.{Taken}

pub frame_on_only :
    (d : Domain) (kept t : VirtualLocalTime) (bytes : List ℕ) →
    OnlyOne (λ (r : LentFrame × Domain). TakenOn d kept t bytes r.0 r.1)
frame_on_only d kept t bytes x y p q = λ i. ((p.call ∙ sym q.call) i, (p.domain ∙ sym q.domain) i)

pub frame_lent_only :
    (d : Domain) (kept t : VirtualLocalTime) (bytes : List ℕ) →
    OnlyOne (λ (r : DomainCall (Outcome Taken)). r ≡ frame_call_of d kept t bytes)
frame_lent_only d kept t bytes = equation_only _
