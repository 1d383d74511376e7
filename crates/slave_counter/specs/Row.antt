-- Paper 02, request 5: the row of SYNCs with a good counter, and what the check answers. Assumes nothing.
use Rattle.std.specs.Prelude.{ℕ, ◌+◌, cond, ltb}
use Rattle.domain.specs.declared.LastSync.{LastSync}
use Rattle.domain.specs.declared.LastSync.TheVariants.{Unknown, Seen}
use Rattle.slave_counter.specs.declared.CounterVerdict.{CounterVerdict}
use Rattle.slave_counter.specs.declared.CounterVerdict.TheVariants.{Free, Good, NotGood}
use Rattle.slave_counter.specs.declared.RowCheck.{RowCheck}
use Rattle.slave_counter.specs.declared.RowCheck.TheVariants.{NotGood as not_good, Joins, Complete}

-- ---- The row stands where the SYNC stands that it counts up to.
abbrev pub row_of : LastSync → ℕ
row_of Unknown = 0
row_of (Seen counter row at) = row

abbrev pub with_row : LastSync → ℕ → LastSync
with_row Unknown row = Unknown
with_row (Seen counter old at) row = Seen counter row at

-- ---- "whether the row is complete": it is with H
abbrev pub reached : (h row : ℕ) → RowCheck
reached h row = cond (ltb row h) (Joins row) (Complete h)

-- ---- "a refused counter during the row sets it to 0": one that is complete stays
abbrev pub row_refused : (h row : ℕ) → ℕ
row_refused h row = cond (ltb row h) 0 row

-- ---- "after the counter was unknown or forgotten, H further SYNC frames in a row with a good counter must come"
abbrev pub checked_of : (h row : ℕ) → CounterVerdict → RowCheck
checked_of h row Free = reached h 0
checked_of h row Good = reached h (row + 1)
checked_of h row NotGood = not_good (row_refused h row)
