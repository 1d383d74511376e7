-- Laws of a master's rules. No contract cites this file.
--   due_fits       a due domain's seconds have 32 bits
--   by_due         what a domain is: not due, or due at its base's time; `DueAt` is told where it is due
-- Assumes nothing.
use Rattle.std.specs.Prelude.{None, Option, Some}
use Prim.Native.Nat.{ℕ, ◌≤◌}
use mathlib.Core.Path.{◌≡◌, refl}
use mathlib.Core.Bool.{true, ◌&&◌}
use lib.Dec.{leb}
use borrow.Author.Tests.{leb-true}
use Rattle.promise.proofs.Tests.{either_told, both}
use Rattle.clock.specs.declared.reading.VirtualLocalTime.{VirtualLocalTime}
use Rattle.clock.specs.declared.time.GlobalTime.{GlobalTime}
use Rattle.clock.specs.declared.base.TimeBase.{TimeBase}
use Rattle.clock.specs.Reading.{span_of}
use Rattle.clock.specs.Base.{time_at}
use Rattle.clock.proofs.Laws.{advance_good}
use Rattle.settings.specs.declared.domain_settings.Role.{Role}
use Rattle.settings.specs.declared.domain_settings.Role.TheVariants.{Absent, Slave, Master}
use Rattle.domain.specs.declared.Sending.{Sending}
use Rattle.master_rules.specs.Due.{is_master, has_waited, due_with, due_of}
use Rattle.master_rules.specs.declared.due.Due.{Due}

pub due_fits :
    (role : Role) (p : ℕ) (g : GlobalTime) (s : Sending) (t : VirtualLocalTime) →
    due_with role p g s t ≡ true → g.0 ≤ 4294967295
due_fits role p g s t e =
    let first = (both (leb g.0 4294967295 && is_master role) (has_waited p s t) e).0 in
    leb-true _ _ (both (leb g.0 4294967295) (is_master role) first).0

is_master_lem : (role : Role) → is_master role ≡ true → role ≡ Master
is_master_lem Absent e = cc
is_master_lem Slave e = cc
is_master_lem Master e = refl

-- ---- the cases of a domain; b is its base

pub record DueAt
    (role : Role) (p : ℕ) (base : Option TimeBase) (s : Sending) (t : VirtualLocalTime) (b : TimeBase) : Type 0 where
  pub held : base ≡ Some b
  pub master : role ≡ Master
  pub waited : has_waited p s t ≡ true
  pub seconds : (time_at b t).0 ≤ 4294967295
  pub nanoseconds : (time_at b t).1 ≤ 999999999

pub by_due :
    (P : Option Due → Type 0) (role : Role) (p : ℕ) (base : Option TimeBase) (s : Sending) (t : VirtualLocalTime) → P None →
    ((b : TimeBase) → DueAt role p base s t b → P (Some (record { seconds = (time_at b t).0; nanoseconds = (time_at b t).1 }))) → P (due_of role p base s t)
by_due P role p None s t not due = not
by_due P role p (Some b) s t not due =
    either_told P (due_with role p (time_at b t) s t)
    (λ e.
    let tests = both (leb (time_at b t).0 4294967295 && is_master role) (has_waited p s t) e in
    due b
    (record {
      held = refl;
      master = is_master_lem role (both (leb (time_at b t).0 4294967295) (is_master role) tests.0).1;
      waited = tests.1;
      seconds = due_fits role p (time_at b t) s t e;
      nanoseconds = advance_good b.time (span_of b.at t);
    }))
    (λ e. not)
