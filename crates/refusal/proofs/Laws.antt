-- A law of the refusal numbers. No contract cites this file.
--   thirteen_unused   no case has the number 13, which is not used again (paper 02, request 8)
-- Assumes nothing.
use mathlib.Core.Path.{◌≡◌}
use native.Mathlib.Omega.{arith}
use Rattle.refusal.specs.declared.Refusal.{Refusal}
use Rattle.refusal.specs.declared.Refusal.TheVariants.{
  Reading,
  Length,
  FrameType,
  Domain,
  Check,
  SyncCounter,
  NoOpenPair,
  FupCounter,
  Nanoseconds,
  NeverSet,
  NoOpenSync,
  NoRoom,
  Settings,
  RowIncomplete,
}
use Rattle.refusal.specs.Numbers.{number_of}

pub thirteen_unused : (refusal : Refusal) → number_of refusal ≡ 13 → ⊥
thirteen_unused Reading e = omega arith
thirteen_unused Length e = omega arith
thirteen_unused FrameType e = omega arith
thirteen_unused Domain e = omega arith
thirteen_unused Check e = omega arith
thirteen_unused SyncCounter e = omega arith
thirteen_unused NoOpenPair e = omega arith
thirteen_unused FupCounter e = omega arith
thirteen_unused Nanoseconds e = omega arith
thirteen_unused NeverSet e = omega arith
thirteen_unused NoOpenSync e = omega arith
thirteen_unused NoRoom e = omega arith
thirteen_unused Settings e = omega arith
thirteen_unused RowIncomplete e = omega arith
