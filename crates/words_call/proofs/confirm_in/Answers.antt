-- What the call of the record gives is put into the words, unless it is refused.
use Rattle.std.proofs.Common.{◌≡◌, sym, ap, ◌∙◌, true, false, length}
use lib.Dec.{eqb}
use borrow.Author.Tests.{eq-eqb, ne_eqb}
use Rattle.words_call.specs.Calls.{confirm_by}
use Rattle.words_call.proofs.confirm_in.Goals as goal
use Rattle.domain.specs.declared.DomainCall.{DomainCall}
use Rattle.frame.specs.declared.values.Fup.{Fup}
use Rattle.refusal.specs.Numbers.{Outcome, outcome_number}

pub returns-then-number-eq0 : goal.returns-then-number-eq0
returns-then-number-eq0 c =
    let a = c.args in
    let called = confirm_by a.node.now a.domain a.t a.counter (length a.out.now) in
    let is_called : c.confirm_call-call.result ≡ called =
    c.confirm_call-call.ensures.call ∙ rw c.record_in-record.ensures in
    let answered : c.number-number.result ≡ outcome_number called.answer =
    c.number-number.ensures ∙ ap (λ (r : DomainCall (Outcome Fup)). outcome_number r.answer) is_called in
    let done : eqb (outcome_number called.answer) 0 ≡ true = eq-eqb _ 0 (sym answered ∙ c.if-number-eq0.true) in
    record {
      number = answered;
      words_after = rw (done, c.put_sent.ensures, is_called);
      bytes = c.confirm_call-call.ensures.bytes ∙ rw (is_called, c.record_in-record.ensures);
    }

pub returns-else-number-eq0 : goal.returns-else-number-eq0
returns-else-number-eq0 c =
    let a = c.args in
    let called = confirm_by a.node.now a.domain a.t a.counter (length a.out.now) in
    let is_called : c.confirm_call-call.result ≡ called =
    c.confirm_call-call.ensures.call ∙ rw c.record_in-record.ensures in
    let answered : c.number-number.result ≡ outcome_number called.answer =
    c.number-number.ensures ∙ ap (λ (r : DomainCall (Outcome Fup)). outcome_number r.answer) is_called in
    let failed : eqb (outcome_number called.answer) 0 ≡ false = ne_eqb _ 0 (λ e. c.if-number-eq0.false (answered ∙ e)) in
    record {
      number = answered;
      words_after = rw failed;
      bytes = c.confirm_call-call.ensures.bytes ∙ rw (is_called, c.record_in-record.ensures);
    }
