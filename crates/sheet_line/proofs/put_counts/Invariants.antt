-- `sheet_line::put_counts` meets its contract. The invariant: the counts that are left, written from the place on,
-- make the whole. Assumes nothing.
use lib.ListN.{drop}
use Rattle.text.proofs.Wrote.{Left}
use Rattle.sheet_line.specs.Line.{counts_text}
use Rattle.sheet_line.proofs.put_counts.Given as goal

abbrev pub invariant-loop-n : goal.invariant-loop-n
invariant-loop-n l =
    Left (counts_text (drop l.n-index l.fn.counts)) l.out (counts_text l.fn.counts) l.initial.out
