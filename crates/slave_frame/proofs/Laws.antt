-- The law of a slave's frame. No contract cites this file.
--   refusal_keeps_frame   a refused frame leaves the record as it was, but under 6 and 15
-- Assumes nothing.
use Prim.Native.Nat.{ℕ}
use mathlib.Core.Path.{refl}
use mathlib.Core.List.{List}
use Rattle.promise.proofs.Tests.{either}
use Rattle.clock.specs.declared.reading.VirtualLocalTime.{VirtualLocalTime}
use Rattle.frame.specs.declared.values.Frame.{Frame}
use Rattle.frame.specs.declared.values.Frame.TheVariants.{Sync as sync, Fup as fup}
use Rattle.frame_check.specs.Check.{is_taken}
use Rattle.domain.specs.declared.Domain.{Domain}
use Rattle.slave_frame.specs.Step.{kind_of, frame_of}
use Rattle.slave_answer.specs.Answer.{Keeps}
use Rattle.slave_sync.proofs.Laws.{refusal_keeps_sync}
use Rattle.slave_fup.proofs.Laws.{refusal_keeps_fup}

kind_keeps : (v : Frame) (d : Domain) (t : VirtualLocalTime) → Keeps d (kind_of d t v)
kind_keeps (sync s) d t = refusal_keeps_sync d t s
kind_keeps (fup f) d t = λ (none, six, fifteen). refusal_keeps_fup d t f none

pub refusal_keeps_frame :
    (d : Domain) (t : VirtualLocalTime) (bytes : List ℕ) (values : Frame) → Keeps d (frame_of d t bytes values)
refusal_keeps_frame d t bytes values =
    either (Keeps d) (is_taken d.settings.mode d.settings.ids bytes) (kind_keeps values d t) (λ e. refl)
