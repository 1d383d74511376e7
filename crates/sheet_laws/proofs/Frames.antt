-- The answer to a frame, on any record. No contract cites this file.
--   frame_within   its D, if it has one, is a number of 64 signed bits
--   frame_slave    where a column counts it, the record is a slave's
-- Assumes nothing.
use Rattle.std.specs.Prelude.{Err, None, Ok, Option, Result, Some}
use Prim.Native.Nat.{ℕ, ◌-◌, ◌^◌, ◌<◌, min}
use mathlib.Core.Path.{◌≡◌}
use mathlib.Core.List.{List}
use native.Mathlib.Omega.{arith}
use lib.Dec.{eqb}
use lib.IntN.{ℤ, pos, negsuc, sub_ℕ}
use Rattle.promise.proofs.Tests.{either, either_told, both}
use Rattle.clock.specs.declared.reading.VirtualLocalTime.{VirtualLocalTime}
use Rattle.clock.specs.declared.base.TimeBase.{TimeBase}
use Rattle.clock.specs.Time.{nanoseconds_of}
use Rattle.clock.specs.Base.{time_at}
use Rattle.clock.specs.Difference.{held}
use Rattle.frame.specs.declared.values.Sync.{Sync}
use Rattle.frame.specs.declared.values.Fup.{Fup}
use Rattle.frame.specs.declared.values.Frame.{Frame}
use Rattle.frame.specs.declared.values.Frame.TheVariants.{Sync as sync, Fup as fup}
use Rattle.frame.specs.Values.{domain_in}
use Rattle.frame_read.specs.Read.{read_of}
use Rattle.frame_check.specs.Check.{is_taken}
use Rattle.settings.specs.declared.domain_settings.Role.TheVariants.{Slave}
use Rattle.domain.specs.declared.Domain.{Domain}
use Rattle.slave_counter.specs.declared.RowCheck.{RowCheck}
use Rattle.slave_counter.specs.declared.RowCheck.TheVariants.{NotGood, Joins, Complete}
use Rattle.slave_pair.specs.Join.{joined_of}
use Rattle.slave_sync.specs.Sync.{check_for, sync_as}
use Rattle.slave_fup.specs.Fup.{update_in, fup_as}
use Rattle.slave_update.specs.Update.{new_base}
use Rattle.slave_frame.specs.Step.{kind_of}
use Rattle.admission.specs.declared.Needed.TheVariants.{Slave as slave}
use Rattle.admission.specs.Reading.{is_good_reading}
use Rattle.admission.specs.Admission.{is_in, is_for}
use Rattle.admission.specs.FrameAdmission.{read_for, frame_admitted}
use Rattle.admission.proofs.Laws.{slave_admitted}
use Rattle.call_frame.specs.FrameCall.{frame_call_as, frame_call_of}
use Rattle.node_laws.specs.Leaps.{moves_of}
use Rattle.sheet_sum.specs.Sum.{Within64, AllWithin64}
use Rattle.sheet_tally.specs.Tally.{columns, column_of}
use Rattle.domain.specs.declared.DomainStep.{DomainStep}
use Rattle.domain.specs.declared.Pair.{Pair}
use Rattle.frame_read.specs.declared.NoFrame.{NoFrame}
use Rattle.frame_read.specs.declared.NoFrame.TheVariants.{LengthNot8, NoSuchType}
use Rattle.refusal.specs.Numbers.{Outcome}
use Rattle.slave_answer.specs.declared.Taken.{Taken}

-- ---- its D

held_within : (z : ℤ) → Within64 (held z)
held_within (pos m) = let top : min m (2 ^ 63 - 1) < 2 ^ 63 = omega arith in top
held_within (negsuc m) = let top : min m (2 ^ 63 - 1) < 2 ^ 63 = omega arith in top

module _ (d : Domain) (kept t : VirtualLocalTime) where
  abbrev AnswerWithin : Outcome Taken → Type 0
  AnswerWithin answer = AllWithin64 (moves_of answer)

  abbrev StepWithin : DomainStep (Outcome Taken) → Type 0
  StepWithin s = AnswerWithin s.answer

  update_within : (b : Option TimeBase) (new : TimeBase) → AnswerWithin (Ok (update_in d b new).answer)
  update_within None new = tt
  update_within (Some old) new = (
    held_within (sub_ℕ (nanoseconds_of new.time) (nanoseconds_of (time_at old new.at))),
    tt,
  )

  fup_within : (j : Outcome Pair) (f : Fup) → StepWithin (fup_as j d f)
  fup_within (Err refusal) f = tt
  fup_within (Ok p) f = update_within d.base (new_base p f)

  sync_within_lem : (c : RowCheck) (s : Sync) → StepWithin (sync_as c d t s)
  sync_within_lem (NotGood row) s = tt
  sync_within_lem (Joins row) s = tt
  sync_within_lem (Complete row) s = tt

  kind_within : (values : Frame) → StepWithin (kind_of d t values)
  kind_within (sync s) = sync_within_lem (check_for d t s) s
  kind_within (fup f) = fup_within (joined_of d.settings.follow_up_time d.pairing t f) f

  call_within : (a : Outcome Frame) (bytes : List ℕ) → AnswerWithin (frame_call_as a d kept t bytes).answer
  call_within (Err refusal) bytes = tt
  call_within (Ok values) bytes =
      either StepWithin (is_taken d.settings.mode d.settings.ids bytes) (kind_within values) tt

  pub frame_within : (bytes : List ℕ) → AllWithin64 (moves_of (frame_call_of d kept t bytes).answer)
  frame_within bytes = call_within (frame_admitted kept t d.number d.settings.role bytes) bytes

-- ---- whose it is: 1 to 4 are tested first, and no column counts them

module _ (d : Domain) (kept t : VirtualLocalTime) (bytes : List ℕ) where
  abbrev IsSlave : Outcome Frame → Type 0
  IsSlave a = column_of (frame_call_as a d kept t bytes).answer < columns → d.settings.role ≡ Slave

  read_slave : (r : Result Frame NoFrame) → IsSlave (read_for r d.number d.settings.role)
  read_slave (Err LengthNot8) = λ h. absurd (omega (arith, h))
  read_slave (Err NoSuchType) = λ h. absurd (omega (arith, h))
  read_slave (Ok values) =
      either_told IsSlave (is_for d.number d.settings.role (domain_in values) slave)
      (λ for h.
      slave_admitted d.settings.role
      (both (eqb (domain_in values) d.number) (is_in d.settings.role slave) for).1)
      (λ no h. absurd (omega (arith, h)))

  pub frame_slave : column_of (frame_call_of d kept t bytes).answer < columns → d.settings.role ≡ Slave
  frame_slave =
      either_told IsSlave (is_good_reading kept t) (λ good. read_slave (read_of bytes)) (λ no h. absurd (omega (arith, h)))
