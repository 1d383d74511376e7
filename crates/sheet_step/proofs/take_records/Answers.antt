-- `sheet_step::take_records` meets its contract: a turn takes the first record that is left. Assumes nothing.
use mathlib.Core.Path.{sym, ap, ◌∙◌}
use native.Mathlib.Omega.{arith}
use Rattle.std.specs.Slice.Iter.{chunks_exact_rest}
use Rattle.sheet_step.specs.declared.Account.{Account}
use Rattle.sheet_step.specs.Account.{after_records}
use Rattle.sheet_step.proofs.Records.{whole_of, one_taken, none_taken}
use Rattle.sheet_step.proofs.take_records.Goals as goal

pub loop-record-preserved : goal.loop-record-preserved
loop-record-preserved c =
    let cut = c.in-Some.ensures.steps in
    let before = chunks_exact_rest c.loop-record.record-iterator in
    let after = chunks_exact_rest c.next.new.self in (
      cut.0 ∙ c.loop-record.invariant.0,
      ap (λ (a : Account). after_records a (whole_of after)) c.take_record-next.ensures
          ∙ sym
          (one_taken c.loop-record.next before c.in-Some.record.now after cut.1.0 (cut.1.1 ∙ c.loop-record.invariant.0))
          ∙ c.loop-record.invariant.1,
    )

pub returns : goal.returns
returns c =
    let cut = c.in-None.ensures.steps in
    let few = cut.1.0 in
    sym
    (none_taken c.loop-record.next (chunks_exact_rest c.loop-record.record-iterator)
    (omega (arith, few, c.loop-record.invariant.0)))
    ∙ c.loop-record.invariant.1
