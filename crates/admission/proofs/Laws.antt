-- What is known of a call that was admitted. No contract cites this file.
--   good_reading     a good reading is in range and not before the kept one
--   by_admission     what an admission is: admitted, or refused by 1 or 4; `Tested` is told where it is admitted
--   slave_admitted   a record admitted as a slave's is one
--   master_admitted  a record admitted as a master's is one
-- Assumes nothing.
use Rattle.std.specs.Prelude.{Err, Ok, ⊤}
use Prim.Native.Nat.{ℕ, ◌≤◌}
use mathlib.Core.Path.{◌≡◌, refl}
use mathlib.Core.Bool.{true}
use lib.Dec.{leb, eqb}
use borrow.Author.Tests.{leb-true}
use Rattle.promise.proofs.Tests.{either_told, both}
use Rattle.clock.specs.declared.reading.VirtualLocalTime.{VirtualLocalTime}
use Rattle.clock.specs.Reading.{is_reading}
use Rattle.refusal.specs.declared.Refusal.TheVariants.{Reading, Domain as domain}
use Rattle.settings.specs.declared.domain_settings.Role.{Role}
use Rattle.settings.specs.declared.domain_settings.Role.TheVariants.{Absent, Slave, Master}
use Rattle.admission.specs.declared.Needed.{Needed}
use Rattle.admission.specs.declared.Needed.TheVariants.{Slave as slave, Master as master}
use Rattle.admission.specs.Admission.{is_in, is_for, admitted_of}
use Rattle.admission.specs.Reading.{is_good_reading}
use Rattle.refusal.specs.Numbers.{Outcome}

-- ---- the tests of an admission

pub record Tested (kept t : VirtualLocalTime) (role : Role) (needed : Needed) : Type 0 where
  pub not_before : kept.0 ≤ t.0
  pub in_range : t.0 ≤ 1000000000000000000
  pub in_role : is_in role needed ≡ true

pub good_reading :
    (kept t : VirtualLocalTime) → is_good_reading kept t ≡ true → (kept.0 ≤ t.0) × (t.0 ≤ 1000000000000000000)
good_reading kept t good =
    let range = both (is_reading t) (leb kept.0 t.0) good in (leb-true _ _ range.1, leb-true _ _ range.0)

pub by_admission :
    (P : Outcome ⊤ → Type 0) (kept t : VirtualLocalTime) (own : ℕ) (role : Role) (asked : ℕ) (needed : Needed) →
    (Tested kept t role needed → P (Ok tt)) → P (Err Reading) → P (Err domain) →
    P (admitted_of kept t own role asked needed)
by_admission P kept t own role asked needed p q r =
    either_told P (is_good_reading kept t)
    (λ good.
    let range = good_reading kept t good in
    either_told P (is_for own role asked needed)
    (λ for.
    p
    (record {
      not_before = range.0;
      in_range = range.1;
      in_role = (both (eqb asked own) (is_in role needed) for).1;
    }))
    (λ e. r))
    (λ e. q)

pub slave_admitted : (role : Role) → is_in role slave ≡ true → role ≡ Slave
slave_admitted Absent e = cc
slave_admitted Slave e = refl
slave_admitted Master e = cc

pub master_admitted : (role : Role) → is_in role master ≡ true → role ≡ Master
master_admitted Absent e = cc
master_admitted Slave e = cc
master_admitted Master e = refl
