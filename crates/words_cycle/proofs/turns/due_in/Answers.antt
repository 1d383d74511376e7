-- The two parts are the record's eleven words of settings, and its eleven of state.
use Rattle.std.proofs.Common.{◌+◌, ◌-◌, ◌≡◌, ◌∙◌, arith}
use Rattle.master_send.specs.Send.{is_due}
use Rattle.node_words.specs.Words.{settings_at, state_at, part_of, record_by}
use Rattle.words_cycle.proofs.turns.due_in.Goals as goal

pub returns : goal.returns
returns c =
    let words = c.args.node.now in
    let from = settings_at c.args.at in
    let size : from + 11 - from ≡ 11 = omega arith in
    let behind : from + 11 ≡ state_at c.args.at = omega arith in
    let next : from + 11 + 11 - (from + 11) ≡ 11 = omega arith in
    c.due_by.ensures
    ∙ (λ i. is_due (record_by (part_of from (size i) words) (part_of (behind i) (next i) words)) c.args.t)
