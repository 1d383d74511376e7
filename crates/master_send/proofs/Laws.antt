-- Laws of a master's turn. No contract cites this file.
--   rest_keeps      a turn in which the domain is not due leaves the record as it was
--   counter_exact   on a counter below 16 the next one is one more, modulo 16
-- Assumes nothing.
use Rattle.std.specs.Prelude.{None, Option, Some}
use Prim.Native.Nat.{ℕ, ◌+◌, ◌%◌, ◌<◌}
use mathlib.Core.Path.{◌≡◌, refl}
use native.Mathlib.Nat.{mod-eq_of_lt}
use Rattle.clock.specs.declared.reading.VirtualLocalTime.{VirtualLocalTime}
use Rattle.domain.specs.declared.Domain.{Domain}
use Rattle.master_send.specs.Send.{due_in, send_as, send_of}
use Rattle.domain.specs.declared.DomainStep.{DomainStep}
use Rattle.frame.specs.declared.values.Sync.{Sync}
use Rattle.master_rules.specs.declared.due.Due.{Due}

-- ---- a rest keeps the record

abbrev Rests : Domain → DomainStep (Option Sync) → Type 0
Rests d r = r.answer ≡ None → r.domain ≡ d

as_rests : (due : Option Due) (d : Domain) (t : VirtualLocalTime) → Rests d (send_as due d t)
as_rests (Some due) d t = λ e. cc
as_rests None d t = λ e. refl

pub rest_keeps : (d : Domain) (t : VirtualLocalTime) → Rests d (send_of d t)
rest_keeps d t = as_rests (due_in d t) d t

-- ---- the counter

pub counter_exact : (counter : ℕ) → counter < 16 → (counter % 16 + 1) % 16 ≡ (counter + 1) % 16
counter_exact counter h = rw (mod-eq_of_lt h)
