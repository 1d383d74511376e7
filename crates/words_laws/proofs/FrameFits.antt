-- A frame on one record leaves its settings, its number and what a master holds, and all numbers within their types: a
-- row is at most H, or as it was, and a run is below the count that clears its leap. No contract cites this file.
--   frame_after   that
-- Assumes nothing.
use Rattle.std.specs.Prelude.{Err, None, Ok, Option, Result, Some}
use Prim.Native.Nat.{ℕ, ◌+◌, ◌<◌}
use mathlib.Core.Path.{refl, subst}
use mathlib.Core.List.{List}
use native.Mathlib.Omega.{arith}
use lib.Dec.{eqb, ltb}
use lib.IntN.{ℤ}
use lib.ListN.{get_or, length}
use borrow.Author.Tests.{ltb-true}
use Rattle.promise.proofs.Tests.{either, either_told}
use Rattle.clock.specs.declared.reading.VirtualLocalTime.{VirtualLocalTime}
use Rattle.clock.specs.declared.base.TimeBase.{TimeBase}
use Rattle.frame.specs.Types.{type_of}
use Rattle.frame.specs.declared.values.Frame.{Frame}
use Rattle.frame.specs.declared.values.Frame.TheVariants.{Sync as sync, Fup as fup}
use Rattle.frame.specs.declared.values.Sync.{Sync}
use Rattle.frame.specs.declared.values.Fup.{Fup}
use Rattle.frame.specs.Values.{domain_in}
use Rattle.frame_read.specs.Read.{values_of, read_of}
use Rattle.frame_check.specs.Check.{is_taken}
use Rattle.frame_laws.specs.RoundTrip.{AreBytes}
use Rattle.frame_laws.proofs.Laws.{byte_below}
use Rattle.settings.specs.declared.domain_settings.Role.{Role}
use Rattle.domain.specs.declared.Domain.{Domain}
use Rattle.domain.specs.declared.LastSync.{LastSync}
use Rattle.domain.specs.declared.LastSync.TheVariants.{Unknown, Seen}
use Rattle.domain.specs.Fields.{with_pairing, with_last}
use Rattle.slave_counter.specs.declared.CounterVerdict.{CounterVerdict}
use Rattle.slave_counter.specs.declared.RowCheck.{RowCheck}
use Rattle.slave_counter.specs.declared.RowCheck.TheVariants.{NotGood, Joins, Complete}
use Rattle.slave_counter.specs.Row.{row_of, with_row, checked_of}
use Rattle.slave_counter.proofs.Laws.{Checked, not_joined, begins, alone, joins, completes, checked}
use Rattle.slave_pair.specs.Pair.{user_in}
use Rattle.slave_pair.proofs.Laws.{by_joined}
use Rattle.slave_update.specs.Leap.{is_future, is_past, calmer, leap_after}
use Rattle.slave_update.specs.Update.{new_base, moved_by, update_of}
use Rattle.slave_sync.specs.Sync.{verdict_for, sync_as}
use Rattle.slave_fup.specs.Fup.{fup_as, fup_of}
use Rattle.slave_frame.specs.Step.{kind_of}
use Rattle.admission.specs.declared.Needed.TheVariants.{Slave}
use Rattle.admission.specs.Admission.{is_for}
use Rattle.admission.specs.FrameAdmission.{read_for, frame_admitted}
use Rattle.admission.specs.Reading.{is_good_reading}
use Rattle.call_frame.specs.FrameCall.{frame_call_as, frame_call_of}
use Rattle.record_words.specs.Fits.{PairingFits, LastFits, LeapFits, SettingsFit, StateFits}
use Rattle.words_laws.proofs.Fits.{BesideFrame, After}
use Rattle.domain.specs.declared.DomainStep.{DomainStep}
use Rattle.domain.specs.declared.Leap.{Leap}
use Rattle.domain.specs.declared.Leap.TheVariants.{Future, Past}
use Rattle.domain.specs.declared.Pair.{Pair}
use Rattle.frame.specs.declared.types.FrameType.{FrameType}
use Rattle.frame.specs.declared.types.FrameType.TheVariants.{PlainFup, PlainSync, SecuredFup, SecuredSync}
use Rattle.frame_read.specs.declared.NoFrame.{NoFrame}
use Rattle.frame_read.specs.declared.NoFrame.TheVariants.{LengthNot8, NoSuchType}
use Rattle.refusal.specs.Numbers.{Outcome}
use Rattle.slave_answer.specs.declared.Taken.{Taken}

-- ---- the values of a frame

abbrev ValuesFit : Frame → Type 0
ValuesFit (sync s) =
    (s.seconds < 4294967296) × (s.counter < 256) × (s.user0 < 256) × (user_in s.protection < 256)
ValuesFit (fup f) = user_in f.protection < 256

abbrev ReadFits : Result Frame NoFrame → Type 0
ReadFits (Err LengthNot8) = Unit {0}
ReadFits (Err NoSuchType) = Unit {0}
ReadFits (Ok values) = ValuesFit values

values_fit : (k : Option FrameType) (bytes : List ℕ) → ((i : ℕ) → get_or bytes i 0 < 256) → ReadFits (values_of k bytes)
values_fit (Some PlainSync) bytes h = (omega (arith, h 4, h 5, h 6, h 7), omega arith, h 3, h 1)
values_fit (Some SecuredSync) bytes h = (omega (arith, h 4, h 5, h 6, h 7), omega arith, h 3, omega arith)
values_fit (Some PlainFup) bytes h = h 1
values_fit (Some SecuredFup) bytes h = omega arith
values_fit None bytes h = tt

read_fits : (bytes : List ℕ) → AreBytes bytes → ReadFits (read_of bytes)
read_fits bytes are =
    either ReadFits (eqb (length bytes) 8) (values_fit (type_of (get_or bytes 0 0)) bytes (λ i. byte_below bytes i are)) tt

abbrev AdmittedFits : Outcome Frame → Type 0
AdmittedFits (Err refusal) = Unit {0}
AdmittedFits (Ok values) = ValuesFit values

read_for_fits : (r : Result Frame NoFrame) (own : ℕ) (role : Role) → ReadFits r → AdmittedFits (read_for r own role)
read_for_fits (Err LengthNot8) own role h = tt
read_for_fits (Err NoSuchType) own role h = tt
read_for_fits (Ok values) own role h = either AdmittedFits (is_for own role (domain_in values) Slave) h tt

admitted_fits :
    (kept t : VirtualLocalTime) (own : ℕ) (role : Role) (bytes : List ℕ) → AreBytes bytes →
    AdmittedFits (frame_admitted kept t own role bytes)
admitted_fits kept t own role bytes are =
    either AdmittedFits (is_good_reading kept t) (read_for_fits (read_of bytes) own role (read_fits bytes are)) tt

-- ---- the row, within H

abbrev CheckFits : RowCheck → Type 0
CheckFits (NotGood row) = row < 256
CheckFits (Joins row) = row < 256
CheckFits (Complete row) = row < 256

check_fits :
    (h row : ℕ) (v : CounterVerdict) (k : RowCheck) → h < 256 → row < 256 → Checked h row v k → CheckFits k
check_fits h row v k hh hr not_joined = either (λ (r : ℕ). r < 256) (ltb row h) (omega arith) hr
check_fits h row v k hh hr (begins lt) = omega arith
check_fits h row v k hh hr (alone le) = hh
check_fits h row v k hh hr (joins lt) = omega arith
check_fits h row v k hh hr (completes le) = hh

row_fits : (last : LastSync) → LastFits last → row_of last < 256
row_fits Unknown f = omega arith
row_fits (Seen counter row at) f = f.1

with_row_fits : (last : LastSync) (row : ℕ) → LastFits last → row < 256 → LastFits (with_row last row)
with_row_fits Unknown row f h = tt
with_row_fits (Seen counter old at) row f h = (f.0, h)

-- ---- the run of a leap, below its count

calmer_fits : (count : ℕ) (held : Option Leap) → count < 256 → LeapFits (calmer count held)
calmer_fits count None h = tt
calmer_fits count (Some (Future run)) h =
    either_told LeapFits (ltb (run + 1) count) (λ e. omega (arith, ltb-true (run + 1) count e)) (λ e. tt)
calmer_fits count (Some (Past run)) h =
    either_told LeapFits (ltb (run + 1) count) (λ e. omega (arith, ltb-true (run + 1) count e)) (λ e. tt)

leap_fits :
    (future past count : ℕ) (held : Option Leap) (d : ℤ) → count < 256 → LeapFits (leap_after future past count held d)
leap_fits future past count held d h =
    let zero-run : 0 < 256 = omega arith in
    either LeapFits (is_future future d) zero-run (either LeapFits (is_past past d) zero-run (calmer_fits count held h))

update_fits :
    (future past count : ℕ) (held : Option Leap) (old : Option TimeBase) (new : TimeBase) → count < 256 →
    LeapFits (update_of future past count held old new).leap
update_fits future past count held None new h = tt
update_fits future past count held (Some old) new h = leap_fits future past count held (moved_by old new) h

-- ---- a frame

module _ (d : Domain) (g : StateFits d) (given : SettingsFit d.settings) where
  abbrev Steps : DomainStep (Outcome Taken) → Type 0
  Steps s = After BesideFrame d s.domain

  with_sync_lem :
      (pairing : Option Pair) (last : LastSync) → PairingFits pairing → LastFits last →
      After BesideFrame d (with_last (with_pairing d pairing) last)
  with_sync_lem pairing last p l =
      record {
        settings = refl;
        number = refl;
        beside = record { sending = refl; next = refl };
        fits =
            record {
              base = g.base;
              pairing = p;
              last = l;
              leap = g.leap;
              sending = g.sending;
              user = g.user;
              updates = g.updates;
              next = g.next;
            };
      }

  stays : After BesideFrame d d
  stays = with_sync_lem d.pairing d.last g.pairing g.last

  sync_after_lem :
      (k : RowCheck) → CheckFits k → (t : VirtualLocalTime) (s : Sync) → ValuesFit (sync s) → Steps (sync_as k d t s)
  sync_after_lem (NotGood row) h t s v =
      with_sync_lem d.pairing (with_row d.last row) g.pairing (with_row_fits d.last row g.last h)
  sync_after_lem (Joins row) h t s v = with_sync_lem d.pairing (Seen s.counter row t) g.pairing (v.1, h)
  sync_after_lem (Complete row) h t s v = with_sync_lem (Some _) (Seen s.counter row t) v (v.1, h)

  fup_after : (t : VirtualLocalTime) (f : Fup) → ValuesFit (fup f) → Steps (fup_of d t f)
  fup_after t f v =
      by_joined (λ (j : Outcome Pair). Steps (fup_as j d f)) d.settings.follow_up_time d.pairing t f stays stays stays
      (λ p told.
      let open-fits : PairingFits (Some p) = subst PairingFits told.held g.pairing in
      record {
        settings = refl;
        number = refl;
        beside = record { sending = refl; next = refl };
        fits =
            record {
              base = omega arith;
              pairing = tt;
              last = g.last;
              leap =
                  update_fits d.settings.future_threshold d.settings.past_threshold d.settings.clear_count d.leap d.base
                  (new_base p f) given.count;
              sending = g.sending;
              user = (open-fits.2, open-fits.3, v);
              updates = omega arith;
              next = g.next;
            };
      })

  kind_after : (t : VirtualLocalTime) (values : Frame) → ValuesFit values → Steps (kind_of d t values)
  kind_after t (sync s) v =
      let h = d.settings.hysteresis in
      let row = row_of d.last in
      sync_after_lem (checked_of h row (verdict_for d t s))
      (check_fits h row _ _ given.hysteresis (row_fits d.last g.last) (checked h row (verdict_for d t s))) t s v
  kind_after t (fup f) v = fup_after t f v

  call_after :
      (a : Outcome Frame) (kept t : VirtualLocalTime) (bytes : List ℕ) → AdmittedFits a →
      After BesideFrame d (frame_call_as a d kept t bytes).domain
  call_after (Err refusal) kept t bytes h = stays
  call_after (Ok values) kept t bytes h =
      either Steps (is_taken d.settings.mode d.settings.ids bytes) (kind_after t values h) stays

pub frame_after :
    (d : Domain) (kept t : VirtualLocalTime) (bytes : List ℕ) → StateFits d → SettingsFit d.settings →
    AreBytes bytes → After BesideFrame d (frame_call_of d kept t bytes).domain
frame_after d kept t bytes g given are =
    call_after d g given (frame_admitted kept t d.number d.settings.role bytes) kept t bytes
    (admitted_fits kept t d.number d.settings.role bytes are)
