-- Paper 02, request 13: "SYNCs taken, FUPs taken, frames refused under 5 to 9 each, least and greatest D, and the exact
-- sum of all D". Assumes nothing.
use Rattle.std.specs.Prelude.{ℕ, ◌-◌, cond, ltb, ℤ, get_or, set, replicate, Err, Ok, Some, None}
use Rattle.refusal.specs.Numbers.{number_of, Outcome}
use Rattle.text.specs.Pieces.{next_item}
use Rattle.sheet_sum.specs.Sum.{no_sum, sum_with}
use Rattle.sheet_tally.specs.declared.Tally.{Tally}
use Rattle.sheet_tally.specs.Spread.{spread_with}
use Rattle.slave_answer.specs.declared.Taken.{Taken}
use Rattle.slave_answer.specs.declared.Taken.TheVariants.{First, Opened, Updated}

-- ---- The seven counts of a line.
abbrev pub columns : ℕ
columns = 7

-- ---- Which of them counts an answer: the SYNCs taken, the FUPs taken, the frames refused under 5 to 9. `columns` is
-- none of them.
abbrev pub refused_column : (number : ℕ) → ℕ
refused_column number = cond (ltb number 5) columns (cond (ltb 9 number) columns (number - 3))

abbrev pub column_of : Outcome Taken → ℕ
column_of (Ok Opened) = 0
column_of (Ok First) = 1
column_of (Ok (Updated d)) = 1
column_of (Err refusal) = refused_column (number_of refusal)

abbrev pub no_tally : Tally
no_tally = record { counts = replicate columns 0; spread = None; sum = no_sum }

-- ---- One more in a column, if it is one.
abbrev pub one_more_in : Tally → (column : ℕ) → Tally
one_more_in t column =
    cond (ltb column columns)
    (record {
      counts = set t.counts column (next_item (get_or t.counts column 0));
      spread = t.spread;
      sum = t.sum;
    })
    t

abbrev pub with_difference : Tally → ℤ → Tally
with_difference t d = record { counts = t.counts; spread = Some (spread_with t.spread d); sum = sum_with t.sum d }

-- ---- "On each update of a set base let D be": the first FUP sets the base, and has none.
abbrev pub measured_by : Outcome Taken → Tally → Tally
measured_by (Ok Opened) t = t
measured_by (Ok First) t = t
measured_by (Ok (Updated d)) t = with_difference t d
measured_by (Err refusal) t = t

abbrev pub counted_of : Tally → Outcome Taken → Tally
counted_of t answer = measured_by answer (one_more_in t (column_of answer))
