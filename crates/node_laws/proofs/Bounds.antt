-- The bounds of the paper, on a good record. No contract cites this file.
--   base_within          a base holds a time that can be received or set
--   received_within      a slave's base holds a time that can be received
--   set_within           a master's base holds a time that can be set
--   base_before          a base's reading is at most the kept one
--   read_within          a read shows a time that can be read
--   time_exact_here      a base's time at t is its time plus t minus its reading, to the nanosecond
--   sent_within_lem          what was sent last is as `SentWithin` says, whatever the role
--   next_counter_within  the counter that is next is below 16
--   by_followed          the FUP of a confirmation is one of a master's open SYNC, at most C old
--   ovs_here             whose OVS is at most 3
--   call_ovs_within      so that the OVS of a call's is
--   follow_exact         and its time is the SYNC's time plus the reading's advance
-- Assumes nothing.
use Rattle.std.specs.Prelude.{Err, None, Ok, Option, Some, ⊤}
use Prim.Native.Nat.{ℕ, ◌≤◌, ◌<◌}
use mathlib.Core.Path.{◌≡◌, refl, sym, ap, subst}
use mathlib.Core.Bool.{true, false}
use native.Mathlib.Omega.{arith}
use lib.Dec.{leb}
use Rattle.frame.specs.declared.values.Fup.{Fup}
use Rattle.frame.specs.ByteTwo.{counters}
use Rattle.clock.specs.declared.reading.VirtualLocalTime.{VirtualLocalTime}
use Rattle.clock.specs.declared.time.GlobalTime.{GlobalTime}
use Rattle.clock.specs.declared.base.TimeBase.{TimeBase}
use Rattle.clock.specs.Reading.{span_of}
use Rattle.clock.specs.Time.{most_set, most_received, IsSet, IsReceived}
use Rattle.clock.specs.Base.{time_at}
use Rattle.clock.proofs.Laws.{time_exact, read_bound}
use Rattle.refusal.specs.declared.Refusal.{Refusal}
use Rattle.settings.specs.declared.domain_settings.Role.{Role}
use Rattle.settings.specs.declared.domain_settings.Role.TheVariants.{Absent, Slave, Master}
use Rattle.settings.specs.Ranges.{is_good_as}
use Rattle.settings.proofs.ranges.Laws.{master_range}
use Rattle.domain.specs.declared.Domain.{Domain}
use Rattle.domain.specs.declared.Sending.{Sending}
use Rattle.domain.specs.declared.Sending.TheVariants.{Never, Open, Confirmed}
use Rattle.admission.specs.declared.Needed.TheVariants.{Master as master, Either}
use Rattle.admission.proofs.Laws.{by_admission, master_admitted}
use Rattle.master_rules.specs.Sent.{protection_of}
use Rattle.master_follow.specs.Follow.{whole_of, ovs_of}
use Rattle.master_follow.proofs.Laws.{whole_exact, ovs_bound, OpenFor, by_follow}
use Rattle.master_confirm.specs.Confirm.{confirm_as}
use Rattle.call_read.specs.ReadCall.{read_as, read_call_as, read_call_of}
use Rattle.call_confirm.specs.ConfirmCall.{confirm_call_as, confirm_call_of}
use Rattle.node_laws.specs.Good.{HeldWithin, SentWithin, RoleGood, RecordGood}
use Rattle.node_laws.specs.Bounds.{HoldsReceived, ShowsRead, OvsMost, TimeExact, Follows}
use Rattle.refusal.specs.Numbers.{Outcome}
use Rattle.master_follow.specs.declared.Follow.{Follow}

-- ---- the base, whatever the role

wider : (kept : VirtualLocalTime) (b : Option TimeBase) → HeldWithin most_set kept b → HeldWithin most_received kept b
wider kept None h = h
wider kept (Some b) h = (omega arith, h.1, h.2)

held_as_lem : (r : Role) (kept : VirtualLocalTime) (d : Domain) → RoleGood r kept d → HeldWithin most_received kept d.base
held_as_lem Absent kept d g = subst (λ (x : Domain). HeldWithin most_received kept x.base) (sym g) tt
held_as_lem Slave kept d g = g.base
held_as_lem Master kept d g = wider kept d.base g.base

-- ---- what was sent last, whatever the role

sent_as_lem :
    (r : Role) (kept : VirtualLocalTime) (d : Domain) → RoleGood r kept d →
    SentWithin kept d.base d.next_counter d.sending
sent_as_lem Absent kept d g = rw (ap (λ (x : Domain). x.sending) g) (ap (λ (x : Domain). x.next_counter) g)
sent_as_lem Slave kept d g = rw g.never g.next
sent_as_lem Master kept d g = g.sent

-- ---- the FUP of a confirmation that is not refused: a master's, of its open SYNC

abbrev pub followed_by : Domain → (counter ovs nanoseconds : ℕ) → Fup
followed_by d counter ovs nanoseconds =
    record {
      domain = d.number;
      counter = counter;
      sgw = false;
      ovs = ovs;
      nanoseconds = nanoseconds;
      protection = protection_of d.settings.security d.settings.user.2;
    }

module _ (P : Fup → Type 0) (d : Domain) (kept t : VirtualLocalTime) (counter : ℕ) where
  none : (refusal : Refusal) (f : Fup) → Err refusal ≡ Ok f → P f
  none refusal f e = let no : ◌≡◌ {A = ℕ} 0 1 = cc in absurd (omega arith)

  pub by_followed :
      (asked length : ℕ) →
      (d.settings.role ≡ Master → kept.0 ≤ t.0 → (from : GlobalTime) (at : VirtualLocalTime) →
      OpenFor d.settings.confirmation_time d.sending t counter from at →
      P (followed_by d counter (ovs_of from at t) (whole_of from at t).1)) →
      (f : Fup) → (confirm_call_of d kept asked t counter length).answer ≡ Ok f → P f
  by_followed asked length holds =
      by_admission
      (λ (a : Outcome ⊤). (f : Fup) → (confirm_call_as a d kept t counter length).answer ≡ Ok f → P f)
      kept t d.number d.settings.role asked master
      (λ tested.
      by_follow (λ (x : Outcome Follow). (f : Fup) → (confirm_as x d counter).answer ≡ Ok f → P f)
      d.settings.confirmation_time d.sending t counter (leb 8 length) (none _) (none _)
      (λ from at told has_room f e.
      let same : followed_by d counter (ovs_of from at t) (whole_of from at t).1 ≡ f = cc in
      subst P same (holds (master_admitted d.settings.role tested.in_role) tested.not_before from at told)))
      (none _) (none _)

module _ (i : ℕ) (kept : VirtualLocalTime) (d : Domain) (g : RecordGood i kept d) where
  within : (b : TimeBase) → d.base ≡ Some b → HeldWithin most_received kept (Some b)
  within b e = subst (HeldWithin most_received kept) e (held_as_lem d.settings.role kept d g.role)

  pub base_within : (b : TimeBase) → d.base ≡ Some b → IsReceived b.time
  base_within b e = let h = within b e in record { whole = h.0; part = h.1 }

  pub received_within : HoldsReceived d
  received_within r b e = let h = within b e in record { whole = omega (arith, h.0); part = h.1 }

  pub set_within : d.settings.role ≡ Master → (b : TimeBase) → d.base ≡ Some b → IsSet b.time
  set_within r b e =
      let h = subst (HeldWithin most_set kept) e (subst (λ (r : Role). RoleGood r kept d) r g.role).base in
      record { whole = h.0; part = h.1 }

  pub base_before : (b : TimeBase) → d.base ≡ Some b → b.at.0 ≤ kept.0
  base_before b e = (within b e).2

  -- ---- the time at a reading

  pub time_exact_here :
      (b : TimeBase) (t : VirtualLocalTime) → d.base ≡ Some b → kept.0 ≤ t.0 → t.0 ≤ 1000000000000000000 →
      TimeExact b.time b.at (time_at b t) t
  time_exact_here b t e le in_range =
      omega (arith, base_before b e, time_exact b t (base_within b e) in_range)

  pub read_within :
      (asked : ℕ) (t : VirtualLocalTime) → ShowsRead (read_call_of d kept asked t)
  read_within asked t =
      by_admission (λ (a : Outcome ⊤). ShowsRead (read_call_as a d t)) kept t d.number d.settings.role asked
      Either (λ tested. by_base tested.in_range d.base refl) (refused _) (refused _)
    where
      refused : (refusal : Refusal) → ShowsRead (Err refusal)
      refused refusal shown e = let z : ◌≡◌ {A = ℕ} 0 1 = cc in absurd (omega arith)

      by_base : t.0 ≤ 1000000000000000000 → (h : Option TimeBase) → d.base ≡ h → ShowsRead (read_as h d t)
      by_base in_range None is shown e = refused _ shown e
      by_base in_range (Some b) is shown e =
          let same : time_at b t ≡ shown.time = cc in
          let bound = read_bound b t (base_within b is) in_range in
          rw (← same) (record { whole = omega (arith, bound.whole); part = bound.part })

  -- ---- what was sent last

  pub sent_within_lem : (s : Sending) → d.sending ≡ s → SentWithin kept d.base d.next_counter s
  sent_within_lem s e =
      subst (SentWithin kept d.base d.next_counter) e (sent_as_lem d.settings.role kept d g.role)

  pub next_counter_within : d.next_counter < counters
  next_counter_within = by_sending d.sending (sent_within_lem d.sending refl)
    where
      by_sending : (s : Sending) → SentWithin kept d.base d.next_counter s → d.next_counter < counters
      by_sending Never h = omega arith
      by_sending (Open counter seconds nanoseconds at) h = omega arith
      by_sending (Confirmed at) h = h.1

  -- ---- the FUP of an open SYNC, `told` by what it was confirmed with

  module _ (is : d.settings.role ≡ Master) (t : VirtualLocalTime) (counter : ℕ) (from : GlobalTime)
      (at : VirtualLocalTime) (told : OpenFor d.settings.confirmation_time d.sending t counter from at) where
    sent : SentWithin kept d.base d.next_counter (Open counter from.0 from.1 at)
    sent = sent_within_lem _ told.held

    good : IsSet from
    good = record { whole = omega (arith, sent.3); part = sent.4 }

    fresh : span_of at t ≤ 3000000000
    fresh =
        let settings = subst (λ (r : Role). is_good_as r d.settings ≡ true) is g.settings in
        omega (arith, told.soon, (master_range d.settings settings).confirmation.1)

    pub ovs_here : ovs_of from at t ≤ 3
    ovs_here = ovs_bound from at t good fresh

    follow_here :
        kept.0 ≤ t.0 → Follows d.sending counter t (followed_by d counter (ovs_of from at t) (whole_of from at t).1)
    follow_here le =
        record {
          time = from;
          at = at;
          is = told.held;
          exact = omega (arith, sent.5, whole_exact from at t good fresh);
          part = omega arith;
        }

  module _ (asked : ℕ) (t : VirtualLocalTime) (counter length : ℕ) where
    pub call_ovs_within : OvsMost (confirm_call_of d kept asked t counter length).answer
    call_ovs_within =
        by_followed _ d kept t counter asked length
        (λ is le from at told. omega (arith, ovs_here is t counter from at told))

    pub follow_exact :
        (f : Fup) → (confirm_call_of d kept asked t counter length).answer ≡ Ok f → Follows d.sending counter t f
    follow_exact =
        by_followed (Follows d.sending counter t) d kept t counter asked length
        (λ is le from at told. follow_here is t counter from at told le)
