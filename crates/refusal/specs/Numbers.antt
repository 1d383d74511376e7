-- Paper 01, "Refusal numbers", and paper 02, requests 8 and 5. Assumes nothing.
use Rattle.std.specs.Prelude.{ℕ, ◌≡◌, Result, Ok, Err}
use Rattle.refusal.specs.declared.Refusal.{Refusal}
use Rattle.refusal.specs.declared.Refusal.TheVariants.{
  Reading,
  Length,
  FrameType,
  Domain,
  Check,
  SyncCounter,
  NoOpenPair,
  FupCounter,
  Nanoseconds,
  NeverSet,
  NoOpenSync,
  NoRoom,
  Settings,
  RowIncomplete,
}

abbrev pub number_of : Refusal → ℕ
number_of Reading = 1
number_of Length = 2
number_of FrameType = 3
number_of Domain = 4
number_of Check = 5
number_of SyncCounter = 6
number_of NoOpenPair = 7
number_of FupCounter = 8
number_of Nanoseconds = 9
number_of NeverSet = 10
number_of NoOpenSync = 11
number_of NoRoom = 12
number_of Settings = 14
number_of RowIncomplete = 15

-- ---- what a call comes to: what it found, or a refusal
abbrev pub Outcome : Type 0 → Type 0
Outcome A = Result A Refusal

-- ---- "0 is success."
abbrev pub outcome_number : {A : Type 0} → Outcome A → ℕ
outcome_number (Ok found) = 0
outcome_number (Err refusal) = number_of refusal

-- ---- "A refused call returns the number and zeros; state and lent bytes stay." The exceptions to 'state stays' are 6
-- and 15.
abbrev pub StateStays : (number : ℕ) → Type 0
StateStays number = (number ≡ 0 → ⊥) × (number ≡ 6 → ⊥) × (number ≡ 15 → ⊥)
