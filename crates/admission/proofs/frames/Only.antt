-- No two results satisfy the promise of F, as `F_only` for each public function F. No contract cites
-- this file.
-- Assumes nothing.
use Prim.Native.Nat.{ℕ}
use mathlib.Core.Path.{◌≡◌}
use mathlib.Core.List.{List}
use Rattle.promise.specs.Only.{OnlyOne}
use Rattle.promise.proofs.Laws.{equation_only}
use Rattle.clock.specs.declared.reading.VirtualLocalTime.{VirtualLocalTime}
use Rattle.settings.specs.declared.domain_settings.Role.{Role}
use Rattle.admission.specs.FrameAdmission.{frame_admitted}
use Rattle.frame.specs.declared.values.Frame.{Frame}
use Rattle.refusal.specs.Numbers.{Outcome}

pub admit_frame_only :
    (kept t : VirtualLocalTime) (own : ℕ) (role : Role) (bytes : List ℕ) →
    OnlyOne (λ (r : Outcome Frame). r ≡ frame_admitted kept t own role bytes)
admit_frame_only kept t own role bytes = equation_only _
