-- Laws of a master's confirmation. No contract cites this file.
--   refusal_keeps_confirm   a refused confirmation leaves the record as it was
--   confirm_closes          a confirmation that is not refused leaves no SYNC open
--   followed_has_room       and there was room for its FUP
-- Assumes nothing.
use Rattle.std.specs.Prelude.{Err, Ok}
use Prim.Native.Nat.{ℕ}
use mathlib.Core.Path.{◌≡◌, refl}
use mathlib.Core.Bool.{Bool, true}
use native.Mathlib.Omega.{arith}
use Rattle.clock.specs.declared.reading.VirtualLocalTime.{VirtualLocalTime}
use Rattle.frame.specs.declared.values.Fup.{Fup}
use Rattle.refusal.specs.declared.Refusal.{Refusal}
use Rattle.domain.specs.declared.Domain.{Domain}
use Rattle.domain.specs.declared.Sending.{Sending}
use Rattle.domain.specs.declared.Sending.TheVariants.{Never, Open, Confirmed}
use Rattle.master_follow.specs.Follow.{follow_of}
use Rattle.master_follow.proofs.Laws.{by_follow}
use Rattle.master_confirm.specs.Confirm.{confirm_as, confirm_of}
use Rattle.domain.specs.declared.DomainStep.{DomainStep}
use Rattle.refusal.specs.Numbers.{Outcome, outcome_number}
use Rattle.master_follow.specs.declared.Follow.{Follow}

-- ---- a refusal keeps the record

abbrev Keeps : Domain → DomainStep (Outcome Fup) → Type 0
Keeps d r = (refusal : Refusal) → r.answer ≡ Err refusal → r.domain ≡ d

as_keeps : (f : Outcome Follow) (d : Domain) (counter : ℕ) → Keeps d (confirm_as f d counter)
as_keeps (Ok follow) d counter = λ r e. cc
as_keeps (Err refusal) d counter = λ r e. refl

abbrev NotOpen : Sending → Type 0
NotOpen Never = Unit {0}
NotOpen (Open sent seconds nanoseconds at) = ⊥
NotOpen (Confirmed at) = Unit {0}

module _ (d : Domain) (t : VirtualLocalTime) (counter : ℕ) (room : Bool) where
  pub refusal_keeps_confirm : Keeps d (confirm_of d t counter room)
  refusal_keeps_confirm =
      as_keeps (follow_of d.settings.confirmation_time d.sending t counter room) d counter

  -- ---- what a confirmation does

  pub confirm_closes :
      outcome_number (confirm_of d t counter room).answer ≡ 0 → NotOpen (confirm_of d t counter room).domain.sending
  confirm_closes =
      by_follow
      (λ (f : Outcome Follow).
      outcome_number (confirm_as f d counter).answer ≡ 0 → NotOpen (confirm_as f d counter).domain.sending)
      d.settings.confirmation_time d.sending t counter room (λ e. absurd (omega arith))
      (λ e. absurd (omega arith)) (λ g at told has_room e. tt)

  pub followed_has_room : (f : Fup) → (confirm_of d t counter room).answer ≡ Ok f → room ≡ true
  followed_has_room f =
      by_follow (λ (x : Outcome Follow). (confirm_as x d counter).answer ≡ Ok f → room ≡ true)
      d.settings.confirmation_time d.sending t counter room (λ e. cc) (λ e. cc)
      (λ g at told has_room e. has_room)
