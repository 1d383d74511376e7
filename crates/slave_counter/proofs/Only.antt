-- No two results satisfy the promise of F, as `F_only` for each public function F. No contract cites
-- this file.
-- Assumes nothing.
use Prim.Native.Nat.{ℕ}
use mathlib.Core.Path.{◌≡◌}
use Rattle.promise.specs.Only.{OnlyOne}
use Rattle.promise.proofs.Laws.{equation_only}
use Rattle.clock.specs.declared.reading.VirtualLocalTime.{VirtualLocalTime}
use Rattle.domain.specs.declared.LastSync.{LastSync}
use Rattle.slave_counter.specs.declared.CounterVerdict.{CounterVerdict}
use Rattle.slave_counter.specs.declared.RowCheck.{RowCheck}
use Rattle.slave_counter.specs.Counter.{verdict_of}
use Rattle.slave_counter.specs.Row.{row_of, with_row, checked_of}

pub judge_counter_only :
    (j l : ℕ) (last : LastSync) (new : ℕ) (t : VirtualLocalTime) →
    OnlyOne (λ (r : CounterVerdict). r ≡ verdict_of j l last new t)
judge_counter_only j l last new t = equation_only _

pub row_of_only : (last : LastSync) → OnlyOne (λ (r : ℕ). r ≡ row_of last)
row_of_only last = equation_only _

pub with_row_only : (last : LastSync) (row : ℕ) → OnlyOne (λ (r : LastSync). r ≡ with_row last row)
with_row_only last row = equation_only _

pub check_row_only : (h row : ℕ) (v : CounterVerdict) → OnlyOne (λ (r : RowCheck). r ≡ checked_of h row v)
check_row_only h row v = equation_only _
