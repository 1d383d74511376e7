-- No two results satisfy the promise of `follow_up`. No contract cites this file. Assumes nothing.
use Prim.Native.Nat.{ℕ}
use mathlib.Core.Path.{◌≡◌}
use mathlib.Core.Bool.{Bool}
use Rattle.promise.specs.Only.{OnlyOne}
use Rattle.promise.proofs.Laws.{equation_only}
use Rattle.clock.specs.declared.reading.VirtualLocalTime.{VirtualLocalTime}
use Rattle.domain.specs.declared.Sending.{Sending}
use Rattle.master_follow.specs.Follow.{follow_of}
use Rattle.refusal.specs.Numbers.{Outcome}
use Rattle.master_follow.specs.declared.Follow.{Follow}

pub follow_up_only :
    (c : ℕ) (s : Sending) (t : VirtualLocalTime) (counter : ℕ) (room : Bool) →
    OnlyOne (λ (r : Outcome Follow). r ≡ follow_of c s t counter room)
follow_up_only c s t counter room = equation_only _
