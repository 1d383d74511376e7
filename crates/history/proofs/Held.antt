-- Demand 3, the first sentence. No contract cites this file.
--   each_time_held   each time the slave holds is that of one SYNC, carried on to its confirmation and tied to
--                    the slave's reading at a copy of that SYNC
-- Assumes nothing.
use Rattle.std.specs.Prelude.{None, Ok, Option, Some}
use Prim.Native.Nat.{ℕ, ◌+◌, ◌≤◌}
use mathlib.Core.Path.{◌≡◌, refl, sym, ap, ◌∙◌, subst}
use mathlib.Core.Bool.{Bool, true, false, cond}
use mathlib.Core.Logic.{◌⊎◌, inl, ⊎_elim}
use mathlib.Core.List.{List, [], ◌∷◌, ◌++◌, append_assoc}
use native.Mathlib.Omega.{arith}
use Rattle.clock.specs.declared.reading.VirtualLocalTime.{VirtualLocalTime}
use Rattle.clock.specs.declared.time.GlobalTime.{GlobalTime}
use Rattle.clock.specs.Reading.{span_of}
use Rattle.frame.specs.declared.values.Fup.{Fup}
use Rattle.frame.specs.declared.values.Frame.{Frame}
use Rattle.frame.specs.declared.values.Frame.TheVariants.{Sync as sync, Fup as fup}
use Rattle.frame_read.specs.Read.{read_of}
use Rattle.settings.specs.declared.domain_settings.DomainSettings.{DomainSettings}
use Rattle.settings.specs.Domain.{slave_held}
use Rattle.domain.specs.declared.Domain.{Domain}
use Rattle.domain.specs.declared.Pair.{Pair}
use Rattle.slave_pair.proofs.Laws.{Joins, by_joined}
use Rattle.slave_update.specs.Update.{new_base}
use Rattle.slave_counter.specs.declared.RowCheck.{RowCheck}
use Rattle.slave_counter.specs.declared.RowCheck.TheVariants.{NotGood, Joins as joins_row, Complete}
use Rattle.slave_sync.specs.Sync.{check_for, sync_as}
use Rattle.slave_fup.specs.Fup.{fup_as}
use Rattle.slave_frame.specs.Step.{kind_of}
use Rattle.master_follow.specs.Follow.{whole_of, ovs_of}
use Rattle.node_call.specs.Calls.{Call, frame, read, set, cycle, confirm}
use Rattle.history.specs.History.{
  Link,
  master_settings,
  slave_settings,
  on_master,
  on_slave,
  Event,
  at_master,
  at_slave,
  History,
  slave_record,
  Sent,
  sent_in,
  is_heard,
  Heard,
  heard_by,
  In,
}
use Rattle.history.specs.Demand.{
  Linked,
  AreCalls,
  moment_of,
  now,
  NeverFall,
  CopyIn,
  Carried,
  Exceed,
  TimeOfOne,
  EachTimeHeld,
}
use Rattle.history.proofs.Row.{SyncSent, FupSent, sync_values, fup_values}
use Rattle.history.proofs.Rows.{
  whole_time,
  RowOf,
  Known,
  PairIn,
  each_known,
  apart,
  sync_bytes,
  fup_bytes,
  sync_read,
  fup_read,
}
use Rattle.history.proofs.Grown.{sent_grows, in_more}
use Rattle.history.proofs.Standing.{standing, sent_past}
use Rattle.history.proofs.Begun.{fresh_record}
use Rattle.history.proofs.SlaveView.{slave_settings_lem, heard_as, unheard_keeps, Step, stays, steps, heard_step}
use Rattle.clock.specs.declared.base.TimeBase.{TimeBase}
use Rattle.refusal.specs.Numbers.{Outcome}

-- ---- an open pair is of a SYNC that was sent, and a copy of it was handed in at its reading

pub record Paired (k : Link) (h : History) (p : Pair) : Type 0 where
  pub of : Sent
  pub sync : SyncSent (master_settings k) k.domain p.counter of
  pub sent : In of (sent_in k h)
  pub seconds : of.time.0 ≡ p.seconds
  pub not_before : on_master k of.at ≤ on_slave k p.at
  pub soon : on_slave k p.at ≤ on_master k of.at + k.e
  pub past : on_slave k p.at ≤ now k h
  pub after : History
  pub before : History
  pub copy : h ≡ after ++ (at_slave (frame p.at of.bytes) ∷ before)
  pub copied : In of (sent_in k before)

abbrev PairOk : Link → History → Option Pair → Type 0
PairOk k h None = Unit {0}
PairOk k h (Some p) = Paired k h p

abbrev BaseOk : Link → History → Option TimeBase → Type 0
BaseOk k h None = Unit {0}
BaseOk k h (Some b) = TimeOfOne k h b

record Kept (k : Link) (h : History) (d : Domain) : Type 0 where
  pair : PairOk k h d.pairing
  base : BaseOk k h d.base

-- ---- a call later

module _ (k : Link) (x : Event) (h : History) (le : now k h ≤ moment_of k x) where
  pair_later : (p : Option Pair) → PairOk k h p → PairOk k (x ∷ h) p
  pair_later None g = tt
  pair_later (Some p) g =
      let more = sent_grows k x h in
      record {
        of = g.of;
        sync = g.sync;
        sent = subst (In g.of) (sym more.is) (in_more g.of more.more (sent_in k h) g.sent);
        seconds = g.seconds;
        not_before = g.not_before;
        soon = g.soon;
        past = omega (arith, g.past);
        after = x ∷ g.after;
        before = g.before;
        copy = ap (λ (l : History). x ∷ l) g.copy;
        copied = g.copied;
      }

  base_later : (b : Option TimeBase) → BaseOk k h b → BaseOk k (x ∷ h) b
  base_later None g = tt
  base_later (Some b) g =
      let more = sent_grows k x h in
      record {
        sync = g.sync;
        fup = g.fup;
        newer = more.more ++ g.newer;
        older = g.older;
        sent =
            more.is
            ∙ ap (λ (l : List Sent). more.more ++ l) g.sent
            ∙ sym (append_assoc more.more g.newer (g.fup ∷ g.sync ∷ g.older));
        is_a_sync = g.is_a_sync;
        is_a_fup = g.is_a_fup;
        time = g.time;
        after = x ∷ g.after;
        before = g.before;
        copy = ap (λ (l : History). x ∷ l) g.copy;
        copied = g.copied;
      }

  kept_later : (d : Domain) → Kept k h d → Kept k (x ∷ h) d
  kept_later d g = record { pair = pair_later d.pairing g.pair; base = base_later d.base g.base }

-- ---- times by their two numbers
same_time : (g g' : GlobalTime) → g.0 ≡ g'.0 → g.1 ≡ g'.1 → g ≡ g'
same_time g g' seconds nanoseconds = λ j. record { 0 = seconds j; 1 = nanoseconds j }

-- ---- the heart: the SYNC of the open pair and the SYNC of a FUP with its counter are one

module _ (k : Link) (exceed : Exceed k) (h : History) (row : RowOf (master_settings k) k.domain (sent_in k h)) where
  one_sync :
      (p : Pair) (g : Paired k h p) (f y : Sent) (t : VirtualLocalTime) →
      SyncSent (master_settings k) k.domain p.counter y → In y (sent_in k h) →
      FupSent (master_settings k) k.domain p.counter y f →
      on_master k f.at ≤ on_slave k t → on_slave k t ≤ on_master k f.at + k.e →
      p.at.0 ≤ t.0 → span_of p.at t ≤ (slave_settings k).follow_up_time → g.of ≡ y
  one_sync p g f y t sy there fs sent soon later young =
      ⊎_elim (λ e. e)
      (⊎_elim
      (λ far. absurd (omega (arith, exceed.follow_up, g.not_before, g.soon, fs.later)))
      (λ far. absurd (omega (arith, exceed.confirmation, g.not_before, g.soon, fs.soon))))
      (apart (master_settings k) k.domain row.latest (sent_in k h) row.row p.counter g.of y g.sent there
      g.sync sy)

-- ---- a frame that is heard

module _ (k : Link) (exceed : Exceed k) (h : History) (row : RowOf (master_settings k) k.domain (sent_in k h))
    (t : VirtualLocalTime) (bytes : List ℕ) (le : now k h ≤ on_slave k t)
    (copy : CopyIn k h (record { bytes = bytes; at = t })) (sent : on_master k copy.of.at ≤ now k h)
    (d : Domain) (held : d.settings ≡ slave_held (slave_settings k)) (g : Kept k h d) where
  abbrev x : Event
  x = at_slave (frame t bytes)

  still : Kept k (x ∷ h) d
  still = kept_later k x h le d g

  -- a SYNC that is not accepted leaves the pair and the base
  sync_as_lem :
      (c : ℕ) → SyncSent (master_settings k) k.domain c copy.of → (check : RowCheck) →
      Kept k (x ∷ h) (sync_as check d t (sync_values (master_settings k) k.domain c copy.of.time.0)).domain
  sync_as_lem c sy (NotGood row) = record { pair = still.pair; base = still.base }
  sync_as_lem c sy (joins_row row) = record { pair = still.pair; base = still.base }
  sync_as_lem c sy (Complete row) =
      record {
        pair =
            record {
              of = copy.of;
              sync = sy;
              sent = copy.copied.sent;
              seconds = refl;
              not_before = omega (arith, sent, le);
              soon = omega (arith, copy.copied.soon);
              past = omega arith;
              after = [];
              before = h;
              copy = ap (λ (b : List ℕ). at_slave (frame t b) ∷ h) copy.copied.same;
              copied = copy.copied.sent;
            };
        base = still.base;
      }

  sync_kept :
      (c : ℕ) → SyncSent (master_settings k) k.domain c copy.of →
      Kept k (x ∷ h) (kind_of d t (sync (sync_values (master_settings k) k.domain c copy.of.time.0))).domain
  sync_kept c sy = sync_as_lem c sy (check_for d t (sync_values (master_settings k) k.domain c copy.of.time.0))

  abbrev values : (c : ℕ) (y : Sent) → Fup
  values c y =
      fup_values (master_settings k) k.domain c (ovs_of y.time y.at copy.of.at)
      (whole_of y.time y.at copy.of.at).1

  module _ (its : PairIn (master_settings k) k.domain (sent_in k h) copy.of) where
    abbrev f : Fup
    f = values its.pair.counter its.y

    -- joined with the open pair p
    joined :
        (p : Pair) → Paired k h p → Joins d.settings.follow_up_time d.pairing t f p →
        TimeOfOne k (x ∷ h) (new_base p f)
    joined p q told =
        let m = master_settings k in
        let i = k.domain in
        let same = told.same in
        let span : span_of p.at t ≤ (slave_settings k).follow_up_time =
        omega (arith, told.young, ap (λ (s : DomainSettings). s.follow_up_time) held) in
        let sy = subst (λ (c : ℕ). SyncSent m i c its.y) same its.pair.sync in
        let fs = subst (λ (c : ℕ). FupSent m i c its.y copy.of) same its.pair.fup in
        let one : q.of ≡ its.y =
        one_sync k exceed h row p q copy.of its.y t sy its.there fs (omega (arith, sent, le))
        (omega (arith, copy.copied.soon)) (omega (arith, q.past, le)) span in
        let whole = whole_time its.y.time its.y.at copy.of.at sy.seconds in
        let seconds : p.seconds ≡ its.y.time.0 = sym q.seconds ∙ ap (λ (z : Sent). z.time.0) one in
        record {
          sync = its.y;
          fup = copy.of;
          newer = its.newer;
          older = its.older;
          sent = its.here;
          is_a_sync = (sync_bytes m i p.counter its.y sy).is;
          is_a_fup = (fup_bytes m i p.counter its.y copy.of fs).is;
          time =
              same_time _ _ (omega (arith, seconds, ap (λ (g : GlobalTime). g.0) whole))
              (omega (arith, ap (λ (g : GlobalTime). g.1) whole));
          after = x ∷ q.after;
          before = q.before;
          copy =
              ap (λ (l : History). x ∷ l) q.copy
              ∙ ap (λ (z : Sent). x ∷ (q.after ++ (at_slave (frame p.at z.bytes) ∷ q.before))) one;
          copied =
              record {
                sent = subst (λ (z : Sent). In z (sent_in k q.before)) one q.copied;
                same = refl;
                soon = omega (arith, q.soon, ap (λ (z : Sent). z.at.0) one);
              };
        }

    fup_kept : Kept k (x ∷ h) (kind_of d t (fup f)).domain
    fup_kept =
        by_joined (λ (j : Outcome Pair). Kept k (x ∷ h) (fup_as j d f).domain) d.settings.follow_up_time
        d.pairing t f still still still
        (λ p told. record { pair = tt; base = joined p (subst (PairOk k h) told.held g.pair) told })

-- ---- along a history

module _ (k : Link) (linked : Linked k) (exceed : Exceed k) where
  -- a frame that is heard, with the values it is read as
  heard_kept :
      (h : History) → AreCalls h → NeverFall k h → (t : VirtualLocalTime) (bytes : List ℕ) → now k h ≤ on_slave k t →
      CopyIn k h (record { bytes = bytes; at = t }) → (values : Frame) → read_of bytes ≡ Ok values →
      Kept k h (slave_record k h) → Kept k (at_slave (frame t bytes) ∷ h) (kind_of (slave_record k h) t values).domain
  heard_kept h calls falls t bytes le copy values reads g =
      ⊎_elim
      (λ (known : Known m i copy.of).
      read_as (sync (sync_values m i known.counter copy.of.time.0))
      (sync_read m i known.counter copy.of linked.domain known.sent)
      (sync_kept k exceed h row t bytes le copy sent d held g known.counter known.sent))
      (λ (its : PairIn m i (sent_in k h) copy.of).
      read_as (fup (values_of its))
      (fup_read m i its.pair.counter its.y copy.of linked.domain its.pair.sync.small its.pair.fup)
      (fup_kept k exceed h row t bytes le copy sent d held g its))
      (each_known m i row.latest (sent_in k h) row.row copy.of copy.copied.sent)
    where
      m : DomainSettings
      m = master_settings k

      i : ℕ
      i = k.domain

      d : Domain
      d = slave_record k h

      row : RowOf (master_settings k) k.domain (sent_in k h)
      row = standing k linked h calls

      held : (slave_record k h).settings ≡ slave_held (slave_settings k)
      held = slave_settings_lem k linked h calls

      sent : on_master k copy.of.at ≤ now k h
      sent = sent_past k h falls copy.of copy.copied.sent

      values_of : PairIn (master_settings k) k.domain (sent_in k h) copy.of → Fup
      values_of its =
          fup_values (master_settings k) k.domain its.pair.counter
          (ovs_of its.y.time its.y.at copy.of.at) (whole_of its.y.time its.y.at copy.of.at).1

      -- the values that were sent are those that are read
      read_as :
          (v : Frame) → read_of copy.of.bytes ≡ Ok v →
          Kept k (at_slave (frame t bytes) ∷ h) (kind_of (slave_record k h) t v).domain →
          Kept k (at_slave (frame t bytes) ∷ h) (kind_of (slave_record k h) t values).domain
      read_as v back kept =
          let both : Ok v ≡ Ok values = sym back ∙ ap read_of (sym copy.copied.same) ∙ reads in
          let same : v ≡ values = cc in
          subst (λ (w : Frame). Kept k (at_slave (frame t bytes) ∷ h) (kind_of (slave_record k h) t w).domain) same kept

  frame_kept_lem :
      (h : History) → AreCalls h → NeverFall k h → (t : VirtualLocalTime) (bytes : List ℕ) →
      now k h ≤ on_slave k t →
      ((x : Heard) → In x (heard_by k (frame t bytes)) → CopyIn k h x) → Kept k h (slave_record k h) →
      Kept k (at_slave (frame t bytes) ∷ h) (slave_record k (at_slave (frame t bytes) ∷ h))
  frame_kept_lem h calls falls t bytes le carried g = go (is_heard k bytes) refl
    where
      Done : Domain → Type 0
      Done d = Kept k (at_slave (frame t bytes) ∷ h) d

      here : Heard
      here = record { bytes = bytes; at = t }

      stepped :
          (values : Frame) → read_of bytes ≡ Ok values → CopyIn k h here →
          (d : Domain) → Step k h t values d → Done d
      stepped values reads copy d stays = kept_later k (at_slave (frame t bytes)) h le (slave_record k h) g
      stepped values reads copy d (steps onward) = heard_kept h calls falls t bytes le copy values reads g

      go : (b : Bool) → is_heard k bytes ≡ b → Done (slave_record k (at_slave (frame t bytes) ∷ h))
      go false e =
          subst Done (sym (unheard_keeps k linked h calls (frame t bytes) (ap (λ (b : Bool). cond b (here ∷ []) []) e)))
          (kept_later k (at_slave (frame t bytes)) h le (slave_record k h) g)
      go true e =
          let a = heard_as k bytes e in
          let copy = carried here (subst (λ (b : Bool). In here (cond b (here ∷ []) [])) (sym e) (inl refl)) in
          stepped a.values a.reads copy _ (heard_step k linked h calls t bytes a.values e a.reads)

  unheard_kept :
      (h : History) → AreCalls h → (c : Call) → now k h ≤ moment_of k (at_slave c) → heard_by k c ≡ [] →
      Kept k h (slave_record k h) → Kept k (at_slave c ∷ h) (slave_record k (at_slave c ∷ h))
  unheard_kept h calls c le e g =
      subst (Kept k (at_slave c ∷ h)) (sym (unheard_keeps k linked h calls c e))
      (kept_later k (at_slave c) h le (slave_record k h) g)

  kept : (h : History) → AreCalls h → NeverFall k h → Carried k h → Kept k h (slave_record k h)
  kept [] calls falls carried =
      subst (Kept k [])
      (sym (fresh_record k.slave k.domain linked.slaves linked.good_slave linked.domain))
      (record { pair = tt; base = tt })
  kept (at_master c ∷ h) calls falls carried =
      kept_later k (at_master c) h falls.1 (slave_record k h) (kept h calls.0 falls.0 carried)
  kept (at_slave (frame t bytes) ∷ h) calls falls carried =
      frame_kept_lem h calls.0 falls.0 t bytes falls.1 carried.1
      (kept h calls.0 falls.0 carried.0)
  kept (at_slave (read domain t) ∷ h) calls falls carried =
      unheard_kept h calls.0 (read domain t) falls.1 refl (kept h calls.0 falls.0 carried.0)
  kept (at_slave (set domain t s ns) ∷ h) calls falls carried =
      unheard_kept h calls.0 (set domain t s ns) falls.1 refl
      (kept h calls.0 falls.0 carried.0)
  kept (at_slave (cycle t out) ∷ h) calls falls carried =
      unheard_kept h calls.0 (cycle t out) falls.1 refl (kept h calls.0 falls.0 carried.0)
  kept (at_slave (confirm domain t counter out) ∷ h) calls falls carried =
      unheard_kept h calls.0 (confirm domain t counter out) falls.1 refl
      (kept h calls.0 falls.0 carried.0)

pub each_time_held : EachTimeHeld
each_time_held k linked exceed h calls falls carried b e =
    subst (BaseOk k h) e (kept k linked exceed h calls falls carried).base
