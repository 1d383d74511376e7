-- Laws of the counter check. No contract cites this file.
--   jump_exact    on counters of a frame, the jump is (new + 16 - last) modulo 16
--   checked       what the check answers, by the verdict: `Checked`
--   row_complete  a row that is complete is H
--   row_begun     one that is not is below H
--   row_stays     a complete row stays where a counter is refused
--   last_stays    and so does the last SYNC with it
-- Assumes nothing.
use Prim.Native.Nat.{ℕ, ◌+◌, ◌-◌, ◌%◌, ◌≤◌, ◌<◌}
use mathlib.Core.Path.{◌≡◌, refl, subst}
use native.Mathlib.Nat.{mod-eq_of_lt}
use lib.Dec.{ltb}
use borrow.Author.Tests.{ltb-true, ltb-false, le-ltb}
use Rattle.promise.proofs.Tests.{either_told}
use Rattle.frame.specs.ByteTwo.{counters}
use Rattle.domain.specs.declared.LastSync.{LastSync}
use Rattle.domain.specs.declared.LastSync.TheVariants.{Unknown, Seen}
use Rattle.slave_counter.specs.declared.CounterVerdict.{CounterVerdict}
use Rattle.slave_counter.specs.declared.CounterVerdict.TheVariants.{Free, Good, NotGood}
use Rattle.slave_counter.specs.declared.RowCheck.{RowCheck}
use Rattle.slave_counter.specs.declared.RowCheck.TheVariants.{NotGood as not_good, Joins, Complete}
use Rattle.slave_counter.specs.Counter.{jump_of}
use Rattle.slave_counter.specs.Row.{row_of, with_row, row_refused, checked_of}

pub jump_exact :
    (last new : ℕ) → last < counters → new < counters → jump_of last new ≡ (new + counters - last) % counters
jump_exact last new p q = rw (mod-eq_of_lt q, mod-eq_of_lt p)

-- ---- the check, by the verdict: not good; the first of a row; one that joins it; one with which it is complete
pub data Checked (h row : ℕ) : CounterVerdict → RowCheck → Type 0 where
  not_joined : Checked h row NotGood (not_good (row_refused h row))
  begins : 0 < h → Checked h row Free (Joins 0)
  alone : h ≤ 0 → Checked h row Free (Complete h)
  joins : row + 1 < h → Checked h row Good (Joins (row + 1))
  completes : h ≤ row + 1 → Checked h row Good (Complete h)

pub checked : (h row : ℕ) (v : CounterVerdict) → Checked h row v (checked_of h row v)
checked h row Free =
    either_told (Checked h row Free) (ltb 0 h) (λ e. begins (ltb-true 0 h e)) (λ e. alone (ltb-false 0 h e))
checked h row Good =
    either_told (Checked h row Good) (ltb (row + 1) h) (λ e. joins (ltb-true (row + 1) h e))
    (λ e. completes (ltb-false (row + 1) h e))
checked h row NotGood = not_joined

-- ---- "whether the row is complete"

abbrev Told : ℕ → RowCheck → Type 0
Told h (not_good row) = Unit {0}
Told h (Joins row) = row < h
Told h (Complete row) = row ≡ h

told : (h row : ℕ) (v : CounterVerdict) (k : RowCheck) → Checked h row v k → Told h k
told h row v k not_joined = tt
told h row v k (begins lt) = lt
told h row v k (alone le) = refl
told h row v k (joins lt) = lt
told h row v k (completes le) = refl

pub row_complete : (h row : ℕ) (v : CounterVerdict) (r : ℕ) → checked_of h row v ≡ Complete r → r ≡ h
row_complete h row v r e = subst (Told h) e (told h row v _ (checked h row v))

pub row_begun : (h row : ℕ) (v : CounterVerdict) (r : ℕ) → checked_of h row v ≡ Joins r → r < h
row_begun h row v r e = subst (Told h) e (told h row v _ (checked h row v))

-- ---- a row that is complete

pub row_stays : (h row : ℕ) → h ≤ row → row_refused h row ≡ row
row_stays h row le = rw (le-ltb row h le) refl

pub last_stays : (h : ℕ) (last : LastSync) → h ≤ row_of last → with_row last (row_refused h (row_of last)) ≡ last
last_stays h Unknown le = refl
last_stays h (Seen counter row at) le = rw (row_stays h row le) refl
