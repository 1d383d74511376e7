-- A call on one record leaves its settings, its number and the parts that it does not put back, and all numbers within
-- their types. No contract cites this file.
--   state_fits, given_fits   the record that any words say fits, and so do its settings
--   set_after                a set: the base and the update counter may change
--   confirm_after            a confirmation: the SYNC sent last
--   send_after               a main cycle's turn: that SYNC, and the next counter
-- Assumes nothing.
use Rattle.std.specs.Prelude.{Err, Ok, Option, ⊤}
use Prim.Native.Nat.{ℕ, ◌<◌}
use mathlib.Core.Path.{◌≡◌, refl}
use mathlib.Core.List.{List}
use native.Mathlib.Omega.{arith}
use lib.Dec.{leb}
use borrow.Author.Tests.{leb-true}
use Rattle.promise.proofs.Tests.{either_told}
use Rattle.clock.specs.declared.reading.VirtualLocalTime.{VirtualLocalTime}
use Rattle.clock.specs.Time.{is_nanoseconds}
use Rattle.domain.specs.declared.Domain.{Domain}
use Rattle.domain.specs.declared.Sending.{Sending}
use Rattle.domain.specs.declared.Sending.TheVariants.{Open, Confirmed}
use Rattle.domain.specs.Fields.{with_sending, with_next}
use Rattle.master_rules.proofs.Laws.{by_due}
use Rattle.master_follow.specs.Follow.{follow_of}
use Rattle.master_confirm.specs.Confirm.{confirm_as}
use Rattle.master_send.specs.Send.{send_as, send_of}
use Rattle.admission.specs.declared.Needed.TheVariants.{Master}
use Rattle.admission.specs.Admission.{admitted_of}
use Rattle.call_set.specs.SetCall.{set_call_as, set_call_of}
use Rattle.call_confirm.specs.ConfirmCall.{confirm_call_as, confirm_call_of}
use Rattle.record_words.specs.Fits.{SendingFits, SettingsFit, StateFits}
use Rattle.record_words.proofs.Back.{BesideBase, BesideSent, words_fit, settings_fit}
use Rattle.node_words.specs.Words.{settings_at, state_at, part_of, record_of}
use Rattle.domain.specs.declared.DomainStep.{DomainStep}
use Rattle.master_follow.specs.declared.Follow.{Follow}
use Rattle.master_rules.specs.declared.due.Due.{Due}
use Rattle.refusal.specs.Numbers.{Outcome}

-- ---- any words say a record that fits

pub state_fits : (words : List ℕ) (at : ℕ) → StateFits (record_of words at)
state_fits words at = words_fit _ _ (part_of (state_at at) 11 words)

pub given_fits : (words : List ℕ) (at : ℕ) → SettingsFit (record_of words at).settings
given_fits words at = settings_fit (part_of (settings_at at) 11 words)

-- ---- a record after a call that may change all but what `Beside` says

pub record BesideFrame (d e : Domain) : Type 0 where
  pub sending : d.sending ≡ e.sending
  pub next : d.next_counter ≡ e.next_counter

pub record After (Beside : Domain → Domain → Type 0) (before after : Domain) : Type 0 where
  pub settings : after.settings ≡ before.settings
  pub number : after.number ≡ before.number
  pub beside : Beside after before
  pub fits : StateFits after

-- ---- a set

module _ (d : Domain) (g : StateFits d) where
  base_stays : After BesideBase d d
  base_stays =
      record {
        settings = refl;
        number = refl;
        beside = record { pairing = refl; last = refl; sending = refl; user = refl; sgw = refl; next = refl };
        fits = g;
      }

  set_call_after :
      (a : Outcome ⊤) (kept t : VirtualLocalTime) (s n : ℕ) → After BesideBase d (set_call_as a d kept t s n).domain
  set_call_after (Err refusal) kept t s n = base_stays
  set_call_after (Ok tt) kept t s n =
      either_told (λ (r : DomainStep (Outcome ⊤)). After BesideBase d r.domain) (is_nanoseconds n)
      (λ e.
      record {
        settings = refl;
        number = refl;
        beside = record { pairing = refl; last = refl; sending = refl; user = refl; sgw = refl; next = refl };
        fits =
            record {
              base = omega (arith, leb-true n 999999999 e);
              pairing = g.pairing;
              last = g.last;
              leap = g.leap;
              sending = g.sending;
              user = g.user;
              updates = omega arith;
              next = g.next;
            };
      })
      (λ e. base_stays)

pub set_after :
    (d : Domain) (kept : VirtualLocalTime) (asked : ℕ) (t : VirtualLocalTime) (s n : ℕ) → StateFits d →
    After BesideBase d (set_call_of d kept asked t s n).domain
set_after d kept asked t s n g =
    set_call_after d g (admitted_of kept t d.number d.settings.role asked Master) kept t s n

-- ---- a confirmation, and a turn

module _ (d : Domain) (g : StateFits d) where
  with_sent :
      (sending : Sending) (next : ℕ) → SendingFits sending → next < 256 →
      After BesideSent d (with_next (with_sending d sending) next)
  with_sent sending next s n =
      record {
        settings = refl;
        number = refl;
        beside =
            record {
              pairing = refl;
              last = refl;
              base = refl;
              leap = refl;
              updates = refl;
              user = refl;
              sgw = refl;
            };
        fits =
            record {
              base = g.base;
              pairing = g.pairing;
              last = g.last;
              leap = g.leap;
              sending = s;
              user = g.user;
              updates = g.updates;
              next = n;
            };
      }

  sent_stays : After BesideSent d d
  sent_stays = with_sent d.sending d.next_counter g.sending g.next

  follow_after : (f : Outcome Follow) (counter : ℕ) → After BesideSent d (confirm_as f d counter).domain
  follow_after (Err refusal) counter = sent_stays
  follow_after (Ok follow) counter = with_sent (Confirmed follow.sent_at) d.next_counter tt g.next

  confirm_call_after :
      (a : Outcome ⊤) (kept t : VirtualLocalTime) (counter room : ℕ) →
      After BesideSent d (confirm_call_as a d kept t counter room).domain
  confirm_call_after (Err refusal) kept t counter room = sent_stays
  confirm_call_after (Ok tt) kept t counter room =
      follow_after (follow_of d.settings.confirmation_time d.sending t counter (leb 8 room)) counter

pub confirm_after :
    (d : Domain) (kept : VirtualLocalTime) (asked : ℕ) (t : VirtualLocalTime) (counter room : ℕ) → StateFits d →
    After BesideSent d (confirm_call_of d kept asked t counter room).domain
confirm_after d kept asked t counter room g =
    confirm_call_after d g (admitted_of kept t d.number d.settings.role asked Master) kept t counter room

pub send_after : (d : Domain) (t : VirtualLocalTime) → StateFits d → After BesideSent d (send_of d t).domain
send_after d t g =
    by_due (λ (due : Option Due). After BesideSent d (send_as due d t).domain) d.settings.role d.settings.period
    d.base d.sending t (sent_stays d g)
    (λ b told.
    with_sent d g (Open _ _ _ t) _ (omega arith, omega arith, omega arith) (omega arith))
