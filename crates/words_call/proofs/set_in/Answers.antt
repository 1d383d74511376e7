-- What the call of the record gives is put into the words, unless it is refused.
use Rattle.std.specs.Prelude.{⊤}
use Rattle.std.proofs.Common.{◌≡◌, sym, ap, ◌∙◌, true, false}
use lib.Dec.{eqb}
use borrow.Author.Tests.{eq-eqb, ne_eqb}
use Rattle.words_call.specs.Calls.{set_by}
use Rattle.words_call.proofs.set_in.Goals as goal
use Rattle.domain.specs.declared.DomainCall.{DomainCall}
use Rattle.refusal.specs.Numbers.{Outcome, outcome_number}

pub returns-then-number-eq0 : goal.returns-then-number-eq0
returns-then-number-eq0 c =
    let a = c.args in
    let called = set_by a.node.now a.domain a.t a.seconds a.nanoseconds in
    let is_called : c.set_call-call.result ≡ called = rw (c.set_call-call.ensures, c.record_in-record.ensures) in
    let answered : c.number-number.result ≡ outcome_number called.answer =
    c.number-number.ensures ∙ ap (λ (r : DomainCall (Outcome ⊤)). outcome_number r.answer) is_called in
    let done : eqb (outcome_number called.answer) 0 ≡ true = eq-eqb _ 0 (sym answered ∙ c.if-number-eq0.true) in
    record { number = answered; words_after = rw (done, c.put_base.ensures, is_called) }

pub returns-else-number-eq0 : goal.returns-else-number-eq0
returns-else-number-eq0 c =
    let a = c.args in
    let called = set_by a.node.now a.domain a.t a.seconds a.nanoseconds in
    let is_called : c.set_call-call.result ≡ called = rw (c.set_call-call.ensures, c.record_in-record.ensures) in
    let answered : c.number-number.result ≡ outcome_number called.answer =
    c.number-number.ensures ∙ ap (λ (r : DomainCall (Outcome ⊤)). outcome_number r.answer) is_called in
    let failed : eqb (outcome_number called.answer) 0 ≡ false = ne_eqb _ 0 (λ e. c.if-number-eq0.false (answered ∙ e)) in
    record { number = answered; words_after = rw failed }
