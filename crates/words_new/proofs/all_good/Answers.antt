-- The domains passed are good, so that what is left decides.
use Rattle.std.proofs.Common.{sym, ap, ◌∙◌, arith}
use Rattle.settings.specs.Ranges.{is_good}
use Rattle.settings.specs.Node.{places, all_good}
use Rattle.words_new.specs.New.{given_at}
use Rattle.words_new.proofs.Left.{left_none, good_stop, good_on}
use Rattle.words_new.proofs.all_good.Goals as goal

pub returns-then-not-is_good : goal.returns-then-not-is_good
returns-then-not-is_good c =
    good_stop places (given_at c.args.given.now) c.loop-d.d _ _ (omega arith)
    (c.is_good.ensures ∙ ap is_good c.given_at.ensures) c.loop-d.invariant
    c.if-not-is_good.true

pub loop-d-preserved : goal.loop-d-preserved
loop-d-preserved c =
    good_on places (given_at c.args.given.now) c.loop-d.d _ _ (omega arith)
    (c.is_good.ensures ∙ ap is_good c.given_at.ensures) c.loop-d.invariant
    c.if-not-is_good.false

pub returns : goal.returns
returns c =
    sym (ap all_good (left_none places (given_at c.args.given.now) c.loop-d.d (omega arith)))
    ∙ c.loop-d.invariant
