-- A frame call on one record. No contract cites this file.
--   frame_good    it leaves a good record good, at the reading kept after it
--   frame_kept    which is no earlier than the one before, and in range if that one was
--   pair_before   the pair of the last SYNC is no later than the reading kept
-- Assumes nothing.
use Rattle.std.specs.Prelude.{Err, None, Ok, Option, Result, Some}
use Prim.Native.Nat.{ℕ, ◌+◌, ◌≤◌, ◌<◌}
use mathlib.Core.Path.{◌≡◌, refl, sym, ap, subst}
use mathlib.Core.Bool.{true, ◌&&◌}
use mathlib.Core.Logic.{◌⊎◌, inl, inr}
use mathlib.Core.List.{List}
use native.Mathlib.Omega.{arith}
use lib.Dec.{leb, eqb, ltb}
use borrow.Author.Tests.{ltb-true}
use lib.ListN.{length, get_or}
use Rattle.frame.specs.ByteTwo.{counters}
use Rattle.promise.proofs.Tests.{either, either_told, both}
use Rattle.clock.specs.declared.reading.VirtualLocalTime.{VirtualLocalTime}
use Rattle.clock.specs.Reading.{span_of}
use Rattle.clock.specs.declared.base.TimeBase.{TimeBase}
use Rattle.frame.specs.declared.values.Sync.{Sync}
use Rattle.frame.specs.declared.values.Fup.{Fup}
use Rattle.frame.specs.declared.values.Frame.{Frame}
use Rattle.frame.specs.declared.values.Frame.TheVariants.{Sync as sync, Fup as fup}
use Rattle.frame.specs.Types.{type_of}
use Rattle.frame_read.specs.Read.{word_of, values_of, read_of}
use Rattle.frame_check.specs.Check.{is_taken}
use Rattle.refusal.specs.Numbers.{number_of, Outcome, outcome_number}
use Rattle.frame_laws.specs.RoundTrip.{AreBytes}
use Rattle.frame_laws.proofs.Laws.{byte_below}
use Rattle.settings.specs.declared.domain_settings.Role.{Role}
use Rattle.settings.specs.declared.domain_settings.Role.TheVariants.{Slave}
use Rattle.settings.specs.Ranges.{is_good_as}
use Rattle.settings.proofs.ranges.Laws.{SlaveRange, slave_range}
use Rattle.admission.specs.declared.Needed.TheVariants.{Slave as slave}
use Rattle.admission.specs.Reading.{is_good_reading}
use Rattle.admission.specs.Admission.{is_in, is_for}
use Rattle.admission.proofs.Laws.{good_reading, slave_admitted}
use Rattle.frame.specs.Values.{domain_in}
use Rattle.admission.specs.FrameAdmission.{read_for, frame_admitted}
use Rattle.domain.specs.declared.Domain.{Domain}
use Rattle.domain.specs.declared.Pair.{Pair}
use Rattle.domain.specs.declared.LastSync.{LastSync}
use Rattle.domain.specs.declared.LastSync.TheVariants.{Unknown, Seen}
use Rattle.domain.specs.Fields.{with_pairing, with_last}
use Rattle.slave_counter.specs.declared.CounterVerdict.{CounterVerdict}
use Rattle.slave_counter.specs.declared.CounterVerdict.TheVariants.{Free}
use Rattle.slave_counter.specs.declared.RowCheck.{RowCheck}
use Rattle.slave_counter.specs.Counter.{jump_of, verdict_of}
use Rattle.slave_counter.specs.Row.{row_of, with_row, row_refused}
use Rattle.slave_counter.proofs.Laws.{
  Checked,
  not_joined as refuses,
  begins,
  alone,
  joins,
  completes,
  checked,
  row_stays,
}
use Rattle.slave_pair.specs.Pair.{pair_of}
use Rattle.slave_pair.specs.Join.{joined_of}
use Rattle.slave_pair.proofs.Laws.{by_joined}
use Rattle.slave_update.specs.Leap.{is_future, is_past, calmer}
use Rattle.slave_update.specs.Update.{new_base, moved_by, update_of}
use Rattle.slave_update.proofs.Laws.{update_taken}
use Rattle.slave_sync.specs.Sync.{verdict_for, check_for, with_sync, with_pair, sync_as, sync_of}
use Rattle.slave_fup.specs.Fup.{updated_of, update_in, fup_as}
use Rattle.slave_frame.specs.Step.{kind_of, frame_of}
use Rattle.call_frame.specs.FrameCall.{frame_kept, frame_call_as, frame_call_of}
use Rattle.node_laws.specs.Good.{
  HeldWithin,
  LastWithin,
  OfLast,
  PairWithin,
  BaseBefore,
  BaseFirst,
  Blank,
  RunBelow,
  SlaveGood,
  RoleGood,
  RecordGood,
}
use Rattle.node_laws.proofs.Later.{later, Grows, kept_stays}
use Rattle.domain.specs.declared.DomainStep.{DomainStep}
use Rattle.domain.specs.declared.Leap.{Leap}
use Rattle.domain.specs.declared.Leap.TheVariants.{Future, Past}
use Rattle.frame.specs.declared.types.FrameType.{FrameType}
use Rattle.frame.specs.declared.types.FrameType.TheVariants.{PlainFup, PlainSync, SecuredFup, SecuredSync}
use Rattle.frame_read.specs.declared.NoFrame.{NoFrame}
use Rattle.frame_read.specs.declared.NoFrame.TheVariants.{LengthNot8, NoSuchType}
use Rattle.slave_answer.specs.declared.Taken.{Taken}

-- ---- what the bytes of a frame carry

word_below : (bytes : List ℕ) → AreBytes bytes → word_of bytes < 4294967296
word_below bytes h =
    omega (arith, byte_below bytes 4 h, byte_below bytes 5 h, byte_below bytes 6 h, byte_below bytes 7 h)

abbrev Carried : Frame → Type 0
Carried (sync s) = (s.counter < counters) × (s.seconds < 4294967296)
Carried (fup f) = f.ovs ≤ 3

abbrev ReadCarried : Result Frame NoFrame → Type 0
ReadCarried (Err LengthNot8) = Unit {0}
ReadCarried (Err NoSuchType) = Unit {0}
ReadCarried (Ok values) = Carried values

values_carried : (type : Option FrameType) (bytes : List ℕ) → AreBytes bytes → ReadCarried (values_of type bytes)
values_carried (Some PlainSync) bytes h = (omega arith, word_below bytes h)
values_carried (Some SecuredSync) bytes h = (omega arith, word_below bytes h)
values_carried (Some PlainFup) bytes h = omega arith
values_carried (Some SecuredFup) bytes h = omega arith
values_carried None bytes h = tt

read_carried : (bytes : List ℕ) → AreBytes bytes → ReadCarried (read_of bytes)
read_carried bytes h = either ReadCarried (eqb (length bytes) 8) (values_carried (type_of (get_or bytes 0 0)) bytes h) tt

-- ---- what an admitted frame is: a slave's, at a good reading

abbrev AdmittedWith : (Frame → Type 0) → Outcome Frame → Type 0
AdmittedWith P (Err refusal) = Unit {0}
AdmittedWith P (Ok values) = P values

abbrev ForSlave : Role → Frame → Type 0
ForSlave role values = (role ≡ Slave) × Carried values

read_for_lem : (r : Result Frame NoFrame) (own : ℕ) (role : Role) → ReadCarried r → AdmittedWith (ForSlave role) (read_for r own role)
read_for_lem (Err LengthNot8) own role h = tt
read_for_lem (Err NoSuchType) own role h = tt
read_for_lem (Ok values) own role h =
    either_told (AdmittedWith (ForSlave role)) (is_for own role (domain_in values) slave)
    (λ e. (slave_admitted role (both (eqb (domain_in values) own) (is_in role slave) e).1, h)) (λ e. tt)

module _ (kept t : VirtualLocalTime) where
  abbrev Onward : Type 0
  Onward = (kept.0 ≤ t.0) × (t.0 ≤ 1000000000000000000)

  always : {P : Type 0} (a : Outcome Frame) → P → AdmittedWith (λ values. P) a
  always (Err refusal) p = tt
  always (Ok values) p = p

  admitted_onward :
      (own : ℕ) (role : Role) (bytes : List ℕ) →
      AdmittedWith (λ values. Onward) (frame_admitted kept t own role bytes)
  admitted_onward own role bytes =
      either_told (AdmittedWith (λ values. Onward)) (is_good_reading kept t)
      (λ e. always (read_for (read_of bytes) own role) (good_reading kept t e)) (λ e. tt)

  admitted_slave :
      (own : ℕ) (role : Role) (bytes : List ℕ) → AreBytes bytes →
      AdmittedWith (ForSlave role) (frame_admitted kept t own role bytes)
  admitted_slave own role bytes h =
      either (AdmittedWith (ForSlave role)) (is_good_reading kept t)
      (read_for_lem (read_of bytes) own role (read_carried bytes h)) tt

-- ---- SYNC: the base is before it

base_before :
    (counter row : ℕ) (t : VirtualLocalTime) (most : ℕ) (b : Option TimeBase) → HeldWithin most t b →
    BaseBefore (Seen counter row t) b
base_before counter row t most None w = tt
base_before counter row t most (Some b) w = w.2

base_first :
    (t : VirtualLocalTime) (s : Sync) (most : ℕ) (b : Option TimeBase) → HeldWithin most t b → BaseFirst (Some (pair_of t s)) b
base_first t s most None w = tt
base_first t s most (Some b) w = w.2

blank_with :
    (b : Option TimeBase) (d : Domain) (pairing : Option Pair) (last : LastSync) → Blank b d →
    Blank b (with_last (with_pairing d pairing) last)
blank_with None d pairing last w = w
blank_with (Some b) d pairing last w = w

-- its counter is not good: the row alone changes, and not that of the SYNC whose pair is open

row_refused_lem : (h row : ℕ) → row ≤ h → row_refused h row ≤ h
row_refused_lem h row le = either (λ (r : ℕ). r ≤ h) (ltb row h) (omega arith) le

last_refused :
    (kept : VirtualLocalTime) (h : ℕ) (last : LastSync) → LastWithin kept h last →
    LastWithin kept h (with_row last (row_refused h (row_of last)))
last_refused kept h Unknown w = w
last_refused kept h (Seen counter row at) w = (w.0, row_refused_lem h row w.1, w.2)

own_refused :
    (h : ℕ) (last : LastSync) (p : Pair) → OfLast h last p → OfLast h (with_row last (row_refused h (row_of last))) p
own_refused h Unknown p own = own
own_refused h (Seen counter row at) p own = (own.0, own.1, omega (arith, row_stays h row own.2, own.2))

pair_refused :
    (kept : VirtualLocalTime) (f h : ℕ) (last : LastSync) (p : Option Pair) → PairWithin kept f h last p →
    PairWithin kept f h (with_row last (row_refused h (row_of last))) p
pair_refused kept f h last None w = tt
pair_refused kept f h last (Some p) (whole, inl own) = (whole, inl (own_refused h last p own))
pair_refused kept f h last (Some p) (whole, inr old) = (whole, inr old)

order_refused : (last : LastSync) (row : ℕ) (b : Option TimeBase) → BaseBefore last b → BaseBefore (with_row last row) b
order_refused Unknown row b w = w
order_refused (Seen counter old at) row None w = tt
order_refused (Seen counter old at) row (Some b) w = w

refused :
    (kept : VirtualLocalTime) (d : Domain) → SlaveGood kept d →
    SlaveGood kept (with_last d (with_row d.last (row_refused d.settings.hysteresis (row_of d.last))))
refused kept d g =
    record {
      base = g.base;
      last = last_refused kept _ d.last g.last;
      pair = pair_refused kept _ _ d.last d.pairing g.pair;
      order = order_refused d.last _ d.base g.order;
      first = g.first;
      blank = blank_with d.base d d.pairing _ g.blank;
      run = g.run;
      never = g.never;
      next = g.next;
    }

-- it joins a row that is not complete: the open pair was of a complete one, which is forgotten since, so that L has
-- passed

free_lost :
    (j l : ℕ) (last : LastSync) (new : ℕ) (t : VirtualLocalTime) (h : ℕ) (p : Pair) → OfLast h last p →
    verdict_of j l last new t ≡ Free → l < span_of p.at t
free_lost j l Unknown new t h p own e = absurd own
free_lost j l (Seen counter row at) new t h p own e =
    let Lost : CounterVerdict → Type 0 = λ v. v ≡ Free → l < span_of p.at t in
    either_told Lost (ltb l (span_of at t))
    (λ late same. omega (arith, ltb-true l (span_of at t) late, ap (λ (r : VirtualLocalTime). r.0) own.1))
    (λ soon.
    either Lost (leb 1 (jump_of counter new) && leb (jump_of counter new) j)
    (λ same. let no : ◌≡◌ {A = ℕ} 0 1 = cc in absurd (omega arith))
    (λ same. let no : ◌≡◌ {A = ℕ} 0 1 = cc in absurd (omega arith)))
    e

row_full : (h : ℕ) (last : LastSync) (p : Pair) → OfLast h last p → h ≤ row_of last
row_full h Unknown p own = absurd own
row_full h (Seen counter row at) p own = own.2

-- what a SYNC that is the last leaves of the rest
listened :
    (d : Domain) (t : VirtualLocalTime) (s : Sync) (row : ℕ) (pairing : Option Pair) → Carried (sync s) → SlaveGood t d →
    row ≤ d.settings.hysteresis →
    PairWithin t d.settings.follow_up_time d.settings.hysteresis (Seen s.counter row t) pairing →
    BaseFirst pairing d.base → SlaveGood t (with_sync (with_pairing d pairing) t s row)
listened d t s row pairing c g le pair first =
    record {
      base = g.base;
      last = (c.0, le, omega arith);
      pair = pair;
      order = base_before s.counter row t _ d.base g.base;
      first = first;
      blank = blank_with d.base d pairing _ g.blank;
      run = g.run;
      never = g.never;
      next = g.next;
    }

-- ---- FUP

abbrev JoinedWith : (h : ℕ) → LastSync → Fup → Outcome Pair → Type 0
JoinedWith h last f (Err refusal) = Unit {0}
JoinedWith h last f (Ok p) = (p.seconds < 4294967296) × OfLast h last p × (f.nanoseconds ≤ 999999999)

own_pair :
    (t : VirtualLocalTime) (most h : ℕ) (last : LastSync) (p : Pair) → span_of p.at t ≤ most →
    OfLast h last p ⊎ (most < span_of p.at t) → OfLast h last p
own_pair t most h last p young (inl own) = own
own_pair t most h last p young (inr old) = absurd (omega (arith, young, old))

joined :
    (most h : ℕ) (last : LastSync) (pairing : Option Pair) (t : VirtualLocalTime) (f : Fup) →
    PairWithin t most h last pairing → JoinedWith h last f (joined_of most pairing t f)
joined most h last pairing t f within =
    by_joined (JoinedWith h last f) most pairing t f tt tt tt
    (λ p told.
    let w = subst (PairWithin t most h last) told.held within in
    (w.0, own_pair t most h last p told.young w.1, told.in_range))

pub pair_before :
    (t : VirtualLocalTime) (h : ℕ) (last : LastSync) (p : Pair) → OfLast h last p → LastWithin t h last →
    p.at.0 ≤ t.0
pair_before t h Unknown p own w = absurd own
pair_before t h (Seen counter row at) p own w = omega (arith, ap (λ (r : VirtualLocalTime). r.0) own.1, w.2)

base_of_last :
    (h : ℕ) (last : LastSync) (p : Pair) (f : Fup) → OfLast h last p → BaseBefore last (Some (new_base p f))
base_of_last h Unknown p f own = own
base_of_last h (Seen counter row at) p f own = omega (arith, ap (λ (r : VirtualLocalTime). r.0) own.1)

-- the leap after an update has a run below the count, whatever was held
module _ (count : ℕ) (least : 1 ≤ count) where
  calmer_below : (held : Option Leap) → RunBelow count (calmer count held)
  calmer_below None = tt
  calmer_below (Some (Future run)) =
      either_told (RunBelow count) (ltb (run + 1) count) (λ e. ltb-true (run + 1) count e) (λ e. tt)
  calmer_below (Some (Past run)) =
      either_told (RunBelow count) (ltb (run + 1) count) (λ e. ltb-true (run + 1) count e) (λ e. tt)

  update_below :
      (future past : ℕ) (held : Option Leap) (b : Option TimeBase) (new : TimeBase) →
      RunBelow count (update_of future past count held b new).leap
  update_below future past held None new = tt
  update_below future past held (Some old) new =
      either (RunBelow count) (is_future future (moved_by old new)) (omega arith)
      (either (RunBelow count) (is_past past (moved_by old new)) (omega arith) (calmer_below held))

module _ (d : Domain) (t : VirtualLocalTime) (p : Pair) (f : Fup) (leap : Option Leap)
    (below : RunBelow d.settings.clear_count leap)
    (j : JoinedWith d.settings.hysteresis d.last f (Ok p)) where
  updated : f.ovs ≤ 3 → SlaveGood t d → SlaveGood t (updated_of d p f leap)
  updated o g =
      record {
        base = (omega (arith, j.0), j.2, pair_before t _ d.last p j.1 g.last);
        last = g.last;
        pair = tt;
        order = base_of_last _ d.last p f j.1;
        first = tt;
        blank = tt;
        run = below;
        never = g.never;
        next = g.next;
      }

-- ---- the step

module _ (i : ℕ) (kept t : VirtualLocalTime) (d : Domain) (g : RecordGood i kept d) where
  abbrev StepGood : DomainStep (Outcome Taken) → Type 0
  StepGood s = RecordGood i (frame_kept (outcome_number s.answer) kept t) s.domain

  module _ (le : kept.0 ≤ t.0) (is : d.settings.role ≡ Slave) where
    abbrev at_t : RecordGood i t d
    at_t = later i kept t d le g

    as_slave : SlaveGood t d
    as_slave = subst (λ (r : Role). RoleGood r t d) is at_t.role

    as_role : (after : Domain) → SlaveGood t after → RoleGood d.settings.role t after
    as_role after h = subst (λ (r : Role). RoleGood r t after) (sym is) h

    range : SlaveRange d.settings
    range = slave_range d.settings (subst (λ (r : Role). is_good_as r d.settings ≡ true) is g.settings)

    -- a record that differs in its pairing and its last SYNC
    heard_good :
        (at : VirtualLocalTime) (pairing : Option Pair) (last : LastSync) →
        SlaveGood at (with_last (with_pairing d pairing) last) → RecordGood i at (with_last (with_pairing d pairing) last)
    heard_good at pairing last w =
        record {
          number = g.number;
          settings = g.settings;
          settings_held = g.settings_held;
          ids = g.ids;
          updates = g.updates;
          role = subst (λ (r : Role). RoleGood r at (with_last (with_pairing d pairing) last)) (sym is) w;
        }

    -- where the row is begun anew, a pair that is still open is older than F
    stale :
        (s : Sync) → verdict_for d t s ≡ Free → (row : ℕ) (p : Option Pair) →
        PairWithin t d.settings.follow_up_time d.settings.hysteresis d.last p →
        PairWithin t d.settings.follow_up_time d.settings.hysteresis (Seen s.counter row t) p
    stale s free row None w = tt
    stale s free row (Some p) (whole, inr old) = (whole, inr old)
    stale s free row (Some p) (whole, inl own) =
        let lost = free_lost _ _ d.last s.counter t _ p own free in
        (whole, inr (omega (arith, lost, range.loss.0)))

    -- and so it is where the row goes on
    still_stale :
        (s : Sync) → row_of d.last + 1 < d.settings.hysteresis → (row : ℕ) (p : Option Pair) →
        PairWithin t d.settings.follow_up_time d.settings.hysteresis d.last p →
        PairWithin t d.settings.follow_up_time d.settings.hysteresis (Seen s.counter row t) p
    still_stale s lt row None w = tt
    still_stale s lt row (Some p) (whole, inr old) = (whole, inr old)
    still_stale s lt row (Some p) (whole, inl own) =
        absurd (omega (arith, lt, row_full _ d.last p own))

    opens : (s : Sync) → Carried (sync s) → RecordGood i t (with_pair d t s d.settings.hysteresis)
    opens s c =
        let h = d.settings.hysteresis in
        heard_good t (Some (pair_of t s)) (Seen s.counter h t)
        (listened d t s h (Some (pair_of t s)) c as_slave (omega arith) (c.1, inl (refl, refl, omega arith))
        (base_first t s _ d.base as_slave.base))

    joins_row :
        (s : Sync) (row : ℕ) → Carried (sync s) → row < d.settings.hysteresis →
        PairWithin t d.settings.follow_up_time d.settings.hysteresis (Seen s.counter row t) d.pairing →
        RecordGood i t (with_sync d t s row)
    joins_row s row c lt pair =
        heard_good t d.pairing (Seen s.counter row t)
        (listened d t s row d.pairing c as_slave (omega (arith, lt)) pair as_slave.first)

    sync_as_lem :
        (s : Sync) → Carried (sync s) → (v : CounterVerdict) (k : RowCheck) → verdict_for d t s ≡ v →
        Checked d.settings.hysteresis (row_of d.last) v k → StepGood (sync_as k d t s)
    sync_as_lem s c v k told refuses =
        heard_good kept d.pairing _ (refused kept d (subst (λ (r : Role). RoleGood r kept d) is g.role))
    sync_as_lem s c v k told (begins lt) = joins_row s 0 c lt (stale s told 0 d.pairing as_slave.pair)
    sync_as_lem s c v k told (alone le) = opens s c
    sync_as_lem s c v k told (joins lt) =
        joins_row s (row_of d.last + 1) c lt (still_stale s lt _ d.pairing as_slave.pair)
    sync_as_lem s c v k told (completes le) = opens s c

    sync_step : (s : Sync) → Carried (sync s) → StepGood (sync_of d t s)
    sync_step s c = sync_as_lem s c (verdict_for d t s) (check_for d t s) refl (checked _ _ (verdict_for d t s))

    count_least : 1 ≤ d.settings.clear_count
    count_least = range.leaps.count.0

    taken :
        (p : Pair) (f : Fup) (leap : Option Leap) → RunBelow d.settings.clear_count leap → f.ovs ≤ 3 →
        JoinedWith d.settings.hysteresis d.last f (Ok p) → RecordGood i t (updated_of d p f leap)
    taken p f leap below o j =
        record {
          number = g.number;
          settings = g.settings;
          settings_held = g.settings_held;
          ids = g.ids;
          updates = omega arith;
          role = as_role (updated_of d p f leap) (updated d t p f leap below j o as_slave);
        }

    kept_good : (number : ℕ) → RecordGood i (frame_kept number kept t) d
    kept_good number =
        let P : VirtualLocalTime → Type 0 = λ k. RecordGood i k d in
        either P (eqb number 15) at_t (either P (eqb number 0) at_t g)

    fup_as_lem :
        (j : Outcome Pair) (f : Fup) → f.ovs ≤ 3 → JoinedWith d.settings.hysteresis d.last f j →
        StepGood (fup_as j d f)
    fup_as_lem (Err refusal) f o h = kept_good (number_of refusal)
    fup_as_lem (Ok p) f o h =
        let u = update_in d d.base (new_base p f) in
        let below = update_below d.settings.clear_count count_least d.settings.future_threshold d.settings.past_threshold d.leap d.base (new_base p f) in
        subst (λ (n : ℕ). RecordGood i (frame_kept n kept t) (updated_of d p f u.leap))
        (sym
        (update_taken d.settings.future_threshold d.settings.past_threshold d.settings.clear_count d.leap d.base (new_base p f))) (taken p f u.leap below o h)

    kind_step : (values : Frame) → Carried values → StepGood (kind_of d t values)
    kind_step (sync s) c = sync_step s c
    kind_step (fup f) c =
        fup_as_lem (joined_of d.settings.follow_up_time d.pairing t f) f c
        (joined _ _ d.last d.pairing t f as_slave.pair)

    frame_step : (bytes : List ℕ) (values : Frame) → Carried values → StepGood (frame_of d t bytes values)
    frame_step bytes values c =
        either StepGood (is_taken d.settings.mode d.settings.ids bytes) (kind_step values c) g

  -- ---- the call

  call_good :
      (a : Outcome Frame) (bytes : List ℕ) → AdmittedWith (λ values. Onward kept t) a →
      AdmittedWith (ForSlave d.settings.role) a →
      RecordGood i (frame_call_as a d kept t bytes).kept (frame_call_as a d kept t bytes).domain
  call_good (Err refusal) bytes o s = g
  call_good (Ok values) bytes o s = frame_step o.0 s.0 bytes values s.1

pub frame_good :
    (i : ℕ) (kept t : VirtualLocalTime) (bytes : List ℕ) (d : Domain) → AreBytes bytes → RecordGood i kept d →
    RecordGood i (frame_call_of d kept t bytes).kept (frame_call_of d kept t bytes).domain
frame_good i kept t bytes d h g =
    call_good i kept t d g (frame_admitted kept t d.number d.settings.role bytes) bytes
    (admitted_onward kept t d.number d.settings.role bytes)
    (admitted_slave kept t d.number d.settings.role bytes h)

-- ---- the kept reading

module _ (kept t : VirtualLocalTime) (bytes : List ℕ) (d : Domain) where
  call_kept :
      (a : Outcome Frame) → AdmittedWith (λ values. Onward kept t) a →
      Grows kept (frame_call_as a d kept t bytes).kept
  call_kept (Err refusal) o = kept_stays kept
  call_kept (Ok values) o =
      let number = outcome_number (frame_of d t bytes values).answer in
      let on : Grows kept t = (o.0, λ h. o.1) in
      either (Grows kept) (eqb number 15) on (either (Grows kept) (eqb number 0) on (kept_stays kept))

  pub frame_kept_lem : Grows kept (frame_call_of d kept t bytes).kept
  frame_kept_lem =
      call_kept (frame_admitted kept t d.number d.settings.role bytes)
      (admitted_onward kept t d.number d.settings.role bytes)
