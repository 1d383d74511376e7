-- A master's steps keep a record good. No contract cites this file.
--   set_good, set_kept           a set, taken or refused; and the kept reading only grows, in its range
--   confirm_good, confirm_kept   a confirmation likewise
--   send_good                    a turn of the main cycle
-- Assumes nothing.
use Rattle.std.specs.Prelude.{None, Option, Some, ⊤}
use Prim.Native.Nat.{ℕ, ◌+◌, ◌%◌, ◌≤◌, ◌<◌}
use mathlib.Core.Path.{◌≡◌, refl, sym, subst}
use mathlib.Core.Bool.{Bool}
use native.Mathlib.Omega.{arith}
use lib.Dec.{leb, eqb}
use borrow.Author.Tests.{leb-true}
use Rattle.frame.specs.ByteTwo.{counters}
use Rattle.promise.proofs.Tests.{either, either_told}
use Rattle.clock.specs.declared.reading.VirtualLocalTime.{VirtualLocalTime}
use Rattle.clock.specs.declared.base.TimeBase.{TimeBase}
use Rattle.clock.specs.Reading.{span_of}
use Rattle.clock.specs.Base.{time_at}
use Rattle.clock.proofs.Laws.{advance_good}
use Rattle.settings.specs.declared.domain_settings.Role.{Role}
use Rattle.settings.specs.declared.domain_settings.Role.TheVariants.{Master}
use Rattle.domain.specs.declared.Domain.{Domain}
use Rattle.domain.specs.declared.Sending.{Sending}
use Rattle.domain.specs.declared.Sending.TheVariants.{Never, Open, Confirmed}
use Rattle.domain.proofs.Laws.{update_bound}
use Rattle.admission.specs.declared.Needed.TheVariants.{Master as master}
use Rattle.admission.proofs.Laws.{by_admission, master_admitted}
use Rattle.master_rules.proofs.Laws.{by_due}
use Rattle.master_follow.proofs.Laws.{by_follow}
use Rattle.master_set.specs.Set.{with_time}
use Rattle.master_send.specs.Send.{sent_of, send_as, send_of}
use Rattle.master_confirm.specs.Confirm.{confirm_as, confirm_of}
use Rattle.call_set.specs.SetCall.{set_stepped, set_call_as, set_call_of}
use Rattle.call_confirm.specs.ConfirmCall.{confirm_stepped, confirm_call_as, confirm_call_of}
use Rattle.node_laws.specs.Good.{Blank, BaseSet, SentWithin, MasterGood, RoleGood, RecordGood}
use Rattle.node_laws.proofs.Later.{later, Grows, kept_stays}
use Rattle.domain.specs.declared.DomainCall.{DomainCall}
use Rattle.domain.specs.declared.DomainStep.{DomainStep}
use Rattle.frame.specs.declared.values.Fup.{Fup}
use Rattle.master_follow.specs.declared.Follow.{Follow}
use Rattle.master_rules.specs.declared.due.Due.{Due}
use Rattle.refusal.specs.Numbers.{Outcome, outcome_number}

-- ---- a good record in the master's role

as_master_lem :
    (i : ℕ) (kept : VirtualLocalTime) (d : Domain) → d.settings.role ≡ Master → RecordGood i kept d →
    MasterGood kept d
as_master_lem i kept d e g = subst (λ (r : Role). RoleGood r kept d) e g.role

-- ---- set

still_set :
    (kept : VirtualLocalTime) (base base' : Option TimeBase) (next : ℕ) (s : Sending) → BaseSet base' →
    SentWithin kept base next s → SentWithin kept base' next s
still_set kept base base' next Never is h = h
still_set kept base base' next (Open counter seconds nanoseconds at) is h = (is, h.1, h.2, h.3, h.4, h.5)
still_set kept base base' next (Confirmed at) is h = (is, h.1, h.2)

module _ (i : ℕ) (t : VirtualLocalTime) (s ns : ℕ) (d : Domain) (fits : s < 4294967296) (good : ns ≤ 999999999)
    (e : d.settings.role ≡ Master) (g : RecordGood i t d) where
  abbrev set_one : Domain
  set_one = with_time d (record { 0 = s; 1 = ns }) t

  set_master : MasterGood t set_one
  set_master =
      let m = as_master_lem i t d e g in
      record {
        base = (omega arith, good, omega arith);
        sent = still_set t d.base set_one.base d.next_counter d.sending tt m.sent;
        blank = tt;
        waiting = m.waiting;
        unknown = m.unknown;
        stored = m.stored;
      }

  set_record : RecordGood i t set_one
  set_record =
      record {
        number = g.number;
        settings = g.settings;
        settings_held = g.settings_held;
        ids = g.ids;
        updates = update_bound d.updates;
        role = subst (λ (r : Role). RoleGood r t set_one) (sym e) set_master;
      }

abbrev SetGood : ℕ → DomainCall (Outcome ⊤) → Type 0
SetGood i r = RecordGood i r.kept r.domain

pub set_good :
    (i : ℕ) (kept : VirtualLocalTime) (asked : ℕ) (t : VirtualLocalTime) (s ns : ℕ) (d : Domain) →
    s < 4294967296 → RecordGood i kept d →
    RecordGood i (set_call_of d kept asked t s ns).kept (set_call_of d kept asked t s ns).domain
set_good i kept asked t s ns d fits g =
    by_admission (λ (a : Outcome ⊤). SetGood i (set_call_as a d kept t s ns)) kept t d.number d.settings.role
    asked master
    (λ tested.
    either_told (λ (x : DomainStep (Outcome ⊤)). SetGood i (set_stepped x kept t)) (leb ns 999999999)
    (λ e.
    set_record i t s ns d fits (leb-true _ _ e) (master_admitted d.settings.role tested.in_role)
    (later i kept t d tested.not_before g))
    (λ e. g))
    g g

pub set_kept :
    (kept : VirtualLocalTime) (asked : ℕ) (t : VirtualLocalTime) (s ns : ℕ) (d : Domain) →
    Grows kept (set_call_of d kept asked t s ns).kept
set_kept kept asked t s ns d =
    by_admission (λ (a : Outcome ⊤). Grows kept (set_call_as a d kept t s ns).kept)
    kept t d.number d.settings.role asked master
    (λ tested.
    either (λ (x : DomainStep (Outcome ⊤)). Grows kept (set_stepped x kept t).kept) (leb ns 999999999)
    (tested.not_before, λ h. tested.in_range) (kept_stays kept))
    (kept_stays kept) (kept_stays kept)

-- ---- what was sent last, and the counter that is next: a confirmation and a turn touch nothing else

abbrev sending_as : Domain → Sending → ℕ → Domain
sending_as d s next =
    record {
      settings = d.settings;
      base = d.base;
      pairing = d.pairing;
      last = d.last;
      sending = s;
      number = d.number;
      user = d.user;
      sgw = d.sgw;
      leap = d.leap;
      updates = d.updates;
      next_counter = next;
    }

still_blank : (b : Option TimeBase) (d : Domain) (s : Sending) (next : ℕ) → Blank b d → Blank b (sending_as d s next)
still_blank None d s next h = h
still_blank (Some b) d s next h = h

abbrev ConfirmGood : ℕ → DomainCall (Outcome Fup) → Type 0
ConfirmGood i r = RecordGood i r.kept r.domain

module _ (i : ℕ) (t : VirtualLocalTime) (d : Domain) (e : d.settings.role ≡ Master) (g : RecordGood i t d) where
  sending_good : (s : Sending) (next : ℕ) → SentWithin t d.base next s → RecordGood i t (sending_as d s next)
  sending_good s next h =
      record {
        number = g.number;
        settings = g.settings;
        settings_held = g.settings_held;
        ids = g.ids;
        updates = g.updates;
        role =
            subst (λ (r : Role). RoleGood r t (sending_as d s next)) (sym e)
            (record {
              base = m.base;
              sent = h;
              blank = still_blank d.base d s next m.blank;
              waiting = m.waiting;
              unknown = m.unknown;
              stored = m.stored;
            });
      }
    where
      m : MasterGood t d
      m = as_master_lem i t d e g

  -- ---- confirmation

  confirmed :
      (kept : VirtualLocalTime) (counter : ℕ) (room : Bool) → RecordGood i kept d →
      ConfirmGood i (confirm_stepped (confirm_of d t counter room) kept t)
  confirmed kept counter room old =
      by_follow (λ (f : Outcome Follow). ConfirmGood i (confirm_stepped (confirm_as f d counter) kept t))
      d.settings.confirmation_time d.sending t counter room old old
      (λ from at told has_room.
      let h = subst (SentWithin t d.base d.next_counter) told.held (as_master_lem i t d e g).sent in
      sending_good (Confirmed at) d.next_counter (h.0, omega arith, h.5))

  -- ---- a turn

  sent_good : (b : TimeBase) → d.base ≡ Some b → (time_at b t).0 ≤ 4294967295 →
      RecordGood i t (sent_of d (time_at b t).0 (time_at b t).1 t).domain
  sent_good b is fits =
      let counter = d.next_counter % counters in
      sending_good (Open counter (time_at b t).0 (time_at b t).1 t) ((counter + 1) % counters) (
        subst BaseSet (sym is) tt,
        omega arith,
        refl,
        omega arith,
        advance_good b.time (span_of b.at t),
        omega arith,
      )

pub confirm_good :
    (i : ℕ) (kept : VirtualLocalTime) (asked : ℕ) (t : VirtualLocalTime) (counter length : ℕ) (d : Domain) →
    RecordGood i kept d →
    RecordGood i (confirm_call_of d kept asked t counter length).kept
    (confirm_call_of d kept asked t counter length).domain
confirm_good i kept asked t counter length d g =
    by_admission (λ (a : Outcome ⊤). ConfirmGood i (confirm_call_as a d kept t counter length)) kept t d.number
    d.settings.role asked master
    (λ tested.
    confirmed i t d (master_admitted d.settings.role tested.in_role) (later i kept t d tested.not_before g)
    kept counter (leb 8 length) g)
    g g

pub confirm_kept :
    (kept : VirtualLocalTime) (asked : ℕ) (t : VirtualLocalTime) (counter length : ℕ) (d : Domain) →
    Grows kept (confirm_call_of d kept asked t counter length).kept
confirm_kept kept asked t counter length d =
    by_admission (λ (a : Outcome ⊤). Grows kept (confirm_call_as a d kept t counter length).kept) kept t d.number
    d.settings.role asked master
    (λ tested.
    either (Grows kept) (eqb (outcome_number (confirm_of d t counter (leb 8 length)).answer) 0)
    (tested.not_before, λ h. tested.in_range) (kept_stays kept))
    (kept_stays kept) (kept_stays kept)

-- ---- the main cycle's part on one record

pub send_good :
    (i : ℕ) (kept t : VirtualLocalTime) (d : Domain) → kept.0 ≤ t.0 → RecordGood i kept d →
    RecordGood i t (send_of d t).domain
send_good i kept t d le g =
    by_due (λ (due : Option Due). RecordGood i t (send_as due d t).domain) d.settings.role d.settings.period d.base
    d.sending t still
    (λ b told. sent_good i t d told.master still b told.held told.seconds)
  where
    still : RecordGood i t d
    still = later i kept t d le g
