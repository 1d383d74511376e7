-- No two results satisfy the promise of F, as `F_only` for each public function F. No contract cites
-- this file.
-- Assumes nothing.
use Rattle.std.specs.Prelude.{⊤}
use Prim.Native.Nat.{ℕ}
use mathlib.Core.Path.{◌≡◌}
use mathlib.Core.Bool.{Bool}
use Rattle.promise.specs.Only.{OnlyOne}
use Rattle.promise.proofs.Laws.{equation_only}
use Rattle.clock.specs.declared.reading.VirtualLocalTime.{VirtualLocalTime}
use Rattle.settings.specs.declared.domain_settings.Role.{Role}
use Rattle.admission.specs.declared.Needed.{Needed}
use Rattle.admission.specs.Reading.{is_good_reading}
use Rattle.admission.specs.Kept.{kept_after}
use Rattle.admission.specs.Admission.{is_in, admitted_of}
use Rattle.refusal.specs.Numbers.{Outcome}

pub is_good_reading_only : (kept t : VirtualLocalTime) → OnlyOne (λ (r : Bool). r ≡ is_good_reading kept t)
is_good_reading_only kept t = equation_only _

pub kept_after_only :
    (number : ℕ) (kept t : VirtualLocalTime) → OnlyOne (λ (r : VirtualLocalTime). r ≡ kept_after number kept t)
kept_after_only number kept t = equation_only _

pub admit_only :
    (kept t : VirtualLocalTime) (own : ℕ) (role : Role) (asked : ℕ) (needed : Needed) →
    OnlyOne (λ (r : Outcome ⊤). r ≡ admitted_of kept t own role asked needed)
admit_only kept t own role asked needed = equation_only _

pub is_in_only : (role : Role) (needed : Needed) → OnlyOne (λ (r : Bool). r ≡ is_in role needed)
is_in_only role needed = equation_only _
