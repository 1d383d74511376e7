-- What the call of the record gives is put into the words, under 0, 6 and 15.
use Rattle.std.proofs.Common.{◌≡◌, sym, ap, ◌∙◌, true, false}
use Rattle.words_frame.specs.Frame.{is_stored, called_in}
use Rattle.words_frame.proofs.frames.take_in.Goals as goal
use Rattle.domain.specs.declared.DomainCall.{DomainCall}
use Rattle.refusal.specs.Numbers.{Outcome, outcome_number}
use Rattle.slave_answer.specs.declared.Taken.{Taken}

pub returns-then-is_stored : goal.returns-then-is_stored
returns-then-is_stored c =
    let called = called_in c.args.node.now c.args.t c.args.bytes.now in
    let is_called : c.frame_call-call.result ≡ called =
    rw (c.frame_call-call.ensures, c.record_in-record.ensures, c.named_domain-at.ensures) in
    let is_put : c.is_stored.result ≡ is_stored (outcome_number called.answer) =
    c.is_stored.ensures
    ∙ ap is_stored (c.number.ensures ∙ ap (λ (r : DomainCall (Outcome Taken)). outcome_number r.answer) is_called) in
    let put : is_stored (outcome_number called.answer) ≡ true = sym is_put ∙ c.if-is_stored.true in
    record {
      answer = ap (λ (r : DomainCall (Outcome Taken)). r.answer) is_called;
      words_after = rw (put, c.put_frame.ensures, is_called, c.named_domain-at.ensures);
    }

pub returns-else-is_stored : goal.returns-else-is_stored
returns-else-is_stored c =
    let called = called_in c.args.node.now c.args.t c.args.bytes.now in
    let is_called : c.frame_call-call.result ≡ called =
    rw (c.frame_call-call.ensures, c.record_in-record.ensures, c.named_domain-at.ensures) in
    let is_put : c.is_stored.result ≡ is_stored (outcome_number called.answer) =
    c.is_stored.ensures
    ∙ ap is_stored (c.number.ensures ∙ ap (λ (r : DomainCall (Outcome Taken)). outcome_number r.answer) is_called) in
    let left : is_stored (outcome_number called.answer) ≡ false = sym is_put ∙ c.if-is_stored.false in
    record { answer = ap (λ (r : DomainCall (Outcome Taken)). r.answer) is_called; words_after = rw left }
