-- `sheet_step::take_records` meets its contract. The invariant: what is left makes of the account what the whole makes
-- of the first. Assumes nothing.
use mathlib.Core.Path.{◌≡◌}
use Rattle.std.specs.Slice.Iter.{chunks_exact_rest, chunks_exact_size}
use Rattle.sheet_step.specs.Account.{after_records}
use Rattle.sheet_step.proofs.Records.{whole_of}
use Rattle.sheet_step.proofs.take_records.Given as goal

abbrev pub invariant-loop-record : goal.invariant-loop-record
invariant-loop-record l =
    (chunks_exact_size l.record-iterator ≡ 20)
    × (after_records l.next (whole_of (chunks_exact_rest l.record-iterator))
    ≡ after_records l.initial.next (whole_of l.fn.bytes))
