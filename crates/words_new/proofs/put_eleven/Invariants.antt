-- Its words one by one. The invariant: those so far are copied.
-- Assumes nothing.
use mathlib.Core.Path.{◌≡◌}
use lib.ListN.{length, take}
use Rattle.words_new.proofs.put_eleven.Given as goal

abbrev pub invariant-loop-i : goal.invariant-loop-i
invariant-loop-i l = (length l.words ≡ 11) × (take l.i l.words ≡ take l.i l.list)
