-- Its eleven words of settings, and its eleven of state.
use Rattle.std.proofs.Common.{ℕ, ◌+◌, ◌-◌, ◌≡◌, ◌∙◌, ap, arith}
use Rattle.node_words.specs.Words.{settings_at, state_at, part_of}
use Rattle.node_words.proofs.records.record_at.Goals as goal

pub returns : goal.returns
returns c =
    let words = c.args.node.now in
    let from = settings_at c.args.at in
    let size : from + 11 - from ≡ 11 = omega arith in
    let behind : from + 11 ≡ state_at c.args.at = omega arith in
    let next : from + 11 + 11 - (from + 11) ≡ 11 = omega arith in
    let given : c.eleven-given.result ≡ part_of from 11 words =
    c.eleven-given.ensures ∙ ap (λ (k : ℕ). part_of from k words) size in
    let state : c.eleven.result ≡ part_of (state_at c.args.at) 11 words =
    c.eleven.ensures
    ∙ ap (λ (k : ℕ). part_of (from + 11) k words) next
    ∙ ap (λ (f : ℕ). part_of f 11 words) behind in
    rw (c.domain_of.ensures, c.number_of.ensures, c.settings_of.ensures, given, state)
