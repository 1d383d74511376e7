-- What a master sends in its domain over a history is a row. No contract cites this file.
--   standing       the frames of the domain follow one another as a row, whatever the history
--   sent_past      where readings never fall, each was sent at the newest one or before
-- Assumes nothing.
use Rattle.std.specs.Prelude.{Option}
use Prim.Native.Nat.{ℕ, ◌%◌, ◌≤◌}
use mathlib.Core.Path.{◌≡◌, refl, sym, ap, ◌∙◌, subst}
use mathlib.Core.Logic.{◌⊎◌, inl, inr, ⊎_elim}
use mathlib.Core.Bool.{true}
use mathlib.Core.List.{List, [], ◌∷◌}
use native.Mathlib.Omega.{arith}
use lib.Dec.{eqb}
use borrow.Author.Tests.{leb-true}
use Rattle.frame.specs.ByteTwo.{counters}
use Rattle.promise.proofs.Tests.{either}
use Rattle.clock.specs.declared.reading.VirtualLocalTime.{VirtualLocalTime}
use Rattle.clock.specs.declared.time.GlobalTime.{GlobalTime}
use Rattle.clock.specs.declared.base.TimeBase.{TimeBase}
use Rattle.clock.specs.Reading.{span_of}
use Rattle.clock.specs.Base.{time_at}
use Rattle.frame.specs.declared.values.Frame.TheVariants.{Sync as sync, Fup as fup}
use Rattle.frame_write.specs.Write.{bytes_of}
use Rattle.settings.specs.declared.domain_settings.DomainSettings.{DomainSettings}
use Rattle.settings.specs.declared.domain_settings.Role.{Role}
use Rattle.settings.specs.Domain.{master_held, held_of, held_as}
use Rattle.settings.specs.Ranges.{is_good}
use Rattle.settings.proofs.ranges.Laws.{master_range}
use Rattle.domain.specs.declared.Domain.{Domain}
use Rattle.domain.specs.declared.Sending.TheVariants.{Open}
use Rattle.domain.specs.Fresh.{fresh_of}
use Rattle.master_rules.specs.Due.{has_waited}
use Rattle.master_rules.proofs.Laws.{DueAt}
use Rattle.master_send.specs.Send.{sent_of}
use Rattle.master_confirm.specs.Confirm.{followed_of}
use Rattle.master_follow.specs.Follow.{whole_of, ovs_of}
use Rattle.master_follow.proofs.Laws.{OpenFor}
use Rattle.node.specs.Frame.{addressed_by}
use Rattle.node_call.specs.Calls.{reading_of, answer_to, given_by}
use Rattle.node_laws.specs.Good.{Good as Known}
use Rattle.node_laws.proofs.Fresh.{new_good}
use Rattle.node_laws.proofs.Reachable.{call_good}
use Rattle.history.specs.History.{
  Link,
  master_settings,
  on_master,
  at_master,
  at_slave,
  History,
  master_after,
  master_record,
  Sent,
  time_in,
  noted,
  sent_in,
  In,
}
use Rattle.history.specs.Demand.{Linked, AreCalls, now, NeverFall}
use Rattle.history.proofs.Begun.{fresh_record}
use Rattle.history.proofs.Rows.{RowOf}
use Rattle.history.proofs.Row.{
  sync_values,
  fup_values,
  SyncSent,
  FupSent,
  Newest,
  no_sync,
  newest,
  After,
  Row,
  none,
  then_sync,
  then_fup,
}
use Rattle.history.proofs.MasterView.{
  sync_of,
  fup_of,
  sent_as,
  Moves,
  stays,
  sends,
  follows,
  master_moves,
}

-- ---- a master's record and what was sent in its domain: the SYNC that it holds as open is the newest that was sent,
-- and what is due comes after the newest

record Opened
    (m : DomainSettings) (i : ℕ) (latest : Newest) (c : ℕ) (from : GlobalTime) (at : VirtualLocalTime)
    (l : List Sent) : Type 0 where
  y : Sent
  older : List Sent
  last : latest ≡ newest c y
  first : l ≡ y ∷ older
  sync : SyncSent m i c y
  time : y.time ≡ from
  read : y.at ≡ at

record Stands (m : DomainSettings) (i : ℕ) (d : Domain) (l : List Sent) : Type 0 where
  settings : d.settings ≡ master_held m
  latest : Newest
  row : Row m i latest l
  next :
      (y : Sent) → has_waited m.period d.sending y.at ≡ true → After m latest (d.next_counter % counters) y
  opened :
      (c : ℕ) (from : GlobalTime) (at : VirtualLocalTime) → d.sending ≡ Open c from.0 from.1 at →
      Opened m i latest c from at l

-- ---- a call keeps them so

module _ (m : DomainSettings) (i : ℕ) (t : VirtualLocalTime) (g : GlobalTime) where
  module _ (d : Domain) (l : List Sent) (number : d.number ≡ i) (s : Stands m i d l) where
    sync_stands :
        1 ≤ m.period → time_in d.base t ≡ g → (b : TimeBase) →
        DueAt d.settings.role d.settings.period d.base d.sending t b →
        Stands m i (sent_of d (time_at b t).0 (time_at b t).1 t).domain
        (sent_as t g d.settings.ids (sync_of t d b) ∷ l)
    sync_stands p timed b due =
        record {
          settings = s.settings;
          latest = newest c y;
          row = then_sync s.latest l s.row c y (s.next y waited) sent;
          next = λ x w. (omega arith, omega (arith, leb-true m.period (span_of t x.at) w));
          opened = opened;
        }
      where
        c : ℕ
        c = d.next_counter % counters

        y : Sent
        y = sent_as t g d.settings.ids (sync_of t d b)

        base : time_at b t ≡ g
        base = ap (λ (h : Option TimeBase). time_in h t) (sym due.held) ∙ timed

        waited : has_waited m.period d.sending t ≡ true
        waited = subst (λ (x : DomainSettings). has_waited x.period d.sending t ≡ true) s.settings due.waited

        sent : SyncSent m i c y
        sent =
            record {
              bytes =
                  λ j. bytes_of (s.settings j).ids (sync (sync_values (s.settings j) (number j) c (base j).0));
              small = omega arith;
              seconds = subst (λ (x : GlobalTime). x.0 ≤ 4294967295) base due.seconds;
              nanoseconds = subst (λ (x : GlobalTime). x.1 ≤ 999999999) base due.nanoseconds;
            }

        opened :
            (n : ℕ) (from : GlobalTime) (at : VirtualLocalTime) →
            Open c (time_at b t).0 (time_at b t).1 t ≡ Open n from.0 from.1 at →
            Opened m i (newest c y) n from at (y ∷ l)
        opened n from at e =
            let counter : c ≡ n = cc in
            let seconds : (time_at b t).0 ≡ from.0 = cc in
            let nanoseconds : (time_at b t).1 ≡ from.1 = cc in
            record {
              y = y;
              older = l;
              last = ap (λ (x : ℕ). newest x y) counter;
              first = refl;
              sync = subst (λ (x : ℕ). SyncSent m i x y) counter sent;
              time = sym base ∙ (λ j. record { 0 = seconds j; 1 = nanoseconds j });
              read = cc;
            }

    fup_stands :
        (c : ℕ) (from : GlobalTime) (at : VirtualLocalTime) →
        OpenFor d.settings.confirmation_time d.sending t c from at → ovs_of from at t ≤ 3 → at.0 ≤ t.0 →
        Stands m i (followed_of d c (ovs_of from at t) (whole_of from at t).1 at).domain
        (sent_as t g d.settings.ids (fup_of t d c from at) ∷ l)
    fup_stands c from at told few late =
        record {
          settings = s.settings;
          latest = newest c y;
          row =
              then_fup c y l o.older (subst (λ (x : Newest). Row m i x l) o.last s.row) o.first o.sync f
              sent;
          next =
              λ x w. subst (λ (n : Newest). After m n (d.next_counter % counters) x) o.last
              (s.next x (rw told.held w));
          opened = λ n g r e. let no : ◌≡◌ {A = ℕ} 0 1 = cc in absurd (omega arith);
        }
      where
        o : Opened m i s.latest c from at l
        o = s.opened c from at told.held

        y : Sent
        y = o.y

        f : Sent
        f = sent_as t g d.settings.ids (fup_of t d c from at)

        sent : FupSent m i c y f
        sent =
            let time = sym o.time in
            let read = sym o.read in
            let at_read = ap (λ (x : VirtualLocalTime). x.0) read in
            let most = ap (λ (x : DomainSettings). x.confirmation_time) s.settings in
            record {
              bytes =
                  λ j. bytes_of (s.settings j).ids
                  (fup
                  (fup_values (s.settings j) (number j) c (ovs_of (time j) (read j) t)
                  (whole_of (time j) (read j) t).1));
              later = omega arith;
              soon = omega (arith, told.soon);
              ovs = subst (λ (x : ℕ). x ≤ 3) (λ j. ovs_of (time j) (read j) t) few;
            }

  still_stands :
      (d : Domain) (l : List Sent) (e : Domain) (after : List Sent) → Moves t g d l e after → 1 ≤ m.period →
      d.number ≡ i → time_in d.base t ≡ g → Stands m i d l → Stands m i e after
  still_stands d l e after (stays _ _ _ settings sending next) p n b s =
      record {
        settings = settings ∙ s.settings;
        latest = s.latest;
        row = s.row;
        next = rw (sending, next) s.next;
        opened = rw sending s.opened;
      }
  still_stands d l e after (sends _ _ _ _ held due rest) p n b s =
      still_stands _ _ e after rest p n b (sync_stands d l n s p b held due)
  still_stands d l e after (follows _ _ c from at told few late) p n b s = fup_stands d l n s c from at told few late

-- ---- from the fresh node on

module _ (k : Link) (linked : Linked k) where
  abbrev m : DomainSettings
  m = master_settings k

  held : held_of m ≡ master_held m
  held = ap (λ (r : Role). held_as r m) linked.master

  fresh : master_record k [] ≡ fresh_of k.domain m
  fresh = fresh_record k.master k.domain linked.masters linked.good_master linked.domain

  period : 1 ≤ m.period
  period =
      let new = ((new_good k.master linked.masters).records k.domain linked.domain).settings in
      let same = ap (λ (d : Domain). d.settings) fresh ∙ held in
      let good = subst (λ (s : DomainSettings). is_good s ≡ true) same new in
      omega (arith, (master_range (master_held m) good).period.0)

  fresh_stands : Stands m k.domain (fresh_of k.domain m) []
  fresh_stands =
      record {
        settings = held;
        latest = no_sync;
        row = none;
        next = λ y w. refl;
        opened = λ n g r e. let no : ◌≡◌ {A = ℕ} 0 1 = cc in absurd (omega arith);
      }

  master_stands :
      (h : History) → AreCalls h → Known (master_after k h) × Stands m k.domain (master_record k h) (sent_in k h)
  master_stands [] are = (
    new_good k.master linked.masters,
    subst (λ (d : Domain). Stands m k.domain d []) (sym fresh) fresh_stands,
  )
  master_stands (at_master c ∷ h) are =
      let before = master_stands h are.0 in
      let n = master_after k h in
      let g = time_in (master_record k h).base (reading_of c) in
      let role = ap (λ (s : DomainSettings). s.role) before.1.settings in (
        call_good n c are.1 before.0,
        still_stands m k.domain (reading_of c) g (master_record k h) (sent_in k h) _ _
            (master_moves n before.0 k.domain linked.domain role g (sent_in k h) c) period
            (before.0.records k.domain linked.domain).number refl before.1,
      )
  master_stands (at_slave c ∷ h) are = master_stands h are.0

pub standing :
    (k : Link) → Linked k → (h : History) → AreCalls h → RowOf (master_settings k) k.domain (sent_in k h)
standing k linked h are =
    let s = (master_stands k linked h are).1 in
    record { latest = s.latest; row = s.row }

-- ---- no frame was sent after now

noted_past :
    (i : ℕ) (t : VirtualLocalTime) (g : GlobalTime) (frames : List (List ℕ)) (l : List Sent) (z : Sent) →
    In z (noted i t g frames l) → (z.at ≡ t) ⊎ In z l
noted_past i t g [] l z e = inr e
noted_past i t g (bytes ∷ rest) l z e =
    ⊎_elim inl
    (either (λ (l' : List Sent). In z l' → (z.at ≡ t) ⊎ In z l) (eqb (addressed_by bytes) i)
    (⊎_elim (λ q. inl (ap (λ (x : Sent). x.at) q)) inr) inr)
    (noted_past i t g rest _ z e)

pub sent_past :
    (k : Link) → (h : History) → NeverFall k h → (z : Sent) → In z (sent_in k h) → on_master k z.at ≤ now k h
sent_past k [] never z e = absurd e
sent_past k (at_master c ∷ h) never z e =
    ⊎_elim (λ (q : z.at ≡ reading_of c). omega (arith, ap (on_master k) q))
    (λ (old : In z (sent_in k h)). omega (arith, never.1, sent_past k h never.0 z old))
    (noted_past k.domain (reading_of c) (time_in (master_record k h).base (reading_of c))
    (given_by (answer_to (master_after k h) c)) (sent_in k h) z e)
sent_past k (at_slave c ∷ h) never z e = omega (arith, never.1, sent_past k h never.0 z e)
