-- Whether S is in range decides first, and then the domains.
use Rattle.std.proofs.Common.{◌≡◌, sym, ap, ◌∙◌, Bool, true, false, ◌&&◌}
use Rattle.settings.specs.Ranges.{within}
use Rattle.settings.specs.Node.{all_good}
use Rattle.words_new.specs.New.{node_given}
use Rattle.words_new.proofs.is_taken.Goals as goal

pub returns-then-is_good_syncs : goal.returns-then-is_good_syncs
returns-then-is_good_syncs c =
    let given = node_given c.args.given.now in
    let inside : within 1 16 given.syncs_per_cycle ≡ true =
    sym (c.is_good_syncs.ensures ∙ ap (within 1 16) c.syncs_of.ensures) ∙ c.if-is_good_syncs.true in
    c.all_good.ensures ∙ ap (λ (b : Bool). b && all_good given.domains) (sym inside)

pub returns-else-is_good_syncs : goal.returns-else-is_good_syncs
returns-else-is_good_syncs c =
    let given = node_given c.args.given.now in
    let outside : within 1 16 given.syncs_per_cycle ≡ false =
    sym (c.is_good_syncs.ensures ∙ ap (within 1 16) c.syncs_of.ensures) ∙ c.if-is_good_syncs.false in
    c.if-is_good_syncs.false ∙ ap (λ (b : Bool). b && all_good given.domains) (sym outside)
