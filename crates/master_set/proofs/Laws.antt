-- Laws of a master's set. No contract cites this file.
--   refusal_keeps_set   a refused set leaves the record as it was
--   set_keeps_sending   a set touches no SYNC, neither an open one nor when the last was sent
-- Assumes nothing.
use Rattle.std.specs.Prelude.{Err, ⊤}
use Prim.Native.Nat.{ℕ}
use mathlib.Core.Path.{◌≡◌, refl}
use lib.Dec.{leb}
use Rattle.promise.proofs.Tests.{either}
use Rattle.clock.specs.declared.reading.VirtualLocalTime.{VirtualLocalTime}
use Rattle.refusal.specs.declared.Refusal.{Refusal}
use Rattle.domain.specs.declared.Domain.{Domain}
use Rattle.master_set.specs.Set.{set_of}
use Rattle.domain.specs.declared.DomainStep.{DomainStep}
use Rattle.refusal.specs.Numbers.{Outcome}

-- ---- a refusal keeps the record

pub refusal_keeps_set :
    (d : Domain) (t : VirtualLocalTime) (s n : ℕ) (refusal : Refusal) →
    (set_of d t s n).answer ≡ Err refusal → (set_of d t s n).domain ≡ d
refusal_keeps_set d t s n =
    either (λ (r : DomainStep (Outcome ⊤)). (refusal : Refusal) → r.answer ≡ Err refusal → r.domain ≡ d)
    (leb n 999999999) (λ r e. cc) (λ r e. refl)

-- ---- what a set does

pub set_keeps_sending :
    (d : Domain) (t : VirtualLocalTime) (s n : ℕ) → (set_of d t s n).domain.sending ≡ d.sending
set_keeps_sending d t s n =
    either (λ (r : DomainStep (Outcome ⊤)). r.domain.sending ≡ d.sending) (leb n 999999999) refl refl
