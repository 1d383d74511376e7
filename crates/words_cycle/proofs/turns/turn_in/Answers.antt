-- Each way knows whether the record's step sends (`rests`, `step_rests`, `step_sends`).
use Rattle.std.proofs.Common.{sym, ◌∙◌}
use Rattle.words_cycle.proofs.Turned.{rests, step_rests, step_sends}
use Rattle.words_cycle.proofs.turns.turn_in.Goals as goal

pub returns-then-not-due_in : goal.returns-then-not-due_in
returns-then-not-due_in c =
    let a = c.args in
    rests a.node.now a.at a.t a.out.now a.sent (sym c.due_in.ensures ∙ c.if-not-due_in.true)

pub returns-in_default : goal.returns-in_default
returns-in_default c =
    let a = c.args in
    step_rests a.node.now a.at a.t a.out.now a.sent _ _ c.requires.at_lt_places c.record_in-record.ensures
    c.send-step.ensures c.in_default.is

pub returns : goal.returns
returns c =
    let a = c.args in
    step_sends a.node.now a.at a.t a.out.now a.sent _ _ c.requires.at_lt_places c.record_in-record.ensures
    c.send-step.ensures c.in-Some.sync _ _ c.in-Some.is c.put_sent.ensures c.write_frame.ensures.bytes
