-- `trial_step::ask` meets its contract: the lent parts of the two arrays are the record's frame and a buffer of A5s,
-- and what is shown of the buffer is what the call left there. Assumes nothing.
use Prim.Native.Nat.{ℕ, ◌≤◌}
use mathlib.Core.Path.{◌≡◌, ap, subst₂, ◌∙◌}
use mathlib.Core.Bool.{true}
use mathlib.Core.List.{List, ◌++◌}
use native.Mathlib.Omega.{arith}
use lib.ListN.{length, get_or, take, drop, replicate}
use Rattle.text.specs.declared.Out.{Out}
use Rattle.text.specs.Text.{Wrote}
use Rattle.text.specs.Fields.{pair_at}
use Rattle.text.proofs.Wrote.{named}
use Rattle.node.specs.declared.Node.{Node}
use Rattle.node_call.specs.declared.Request.{Request}
use Rattle.node_call.specs.declared.Request.TheVariants.{Frame, Read, Set, Cycle, Confirm}
use Rattle.node_call.specs.Called.{CalledIn}
use Rattle.bench_record.specs.Step.{Answered}
use Rattle.bench_record.proofs.step.Laws.{answered}
use Rattle.trial_step.specs.TrialLine.{trial_line}
use Rattle.trial_step.specs.Step.{padded_frame, given_frame, lent_length, lent_buffer}
use Rattle.trial_step.proofs.Laws.{buffer, lent_least, lent_is, shown_is}
use Rattle.trial_step.proofs.ask.Goals as goal
use Rattle.node.specs.declared.NodeStep.{NodeStep}
use Rattle.node_call.specs.declared.CallAnswer.{CallAnswer}

-- ---- At most 512 bytes are lent.
lent_most : (q : Request) (bytes : List ℕ) {lent : ℕ} → lent ≡ lent_length q bytes → lent ≤ 512
lent_most (Frame t) bytes e = omega arith
lent_most (Read domain t) bytes e = omega arith
lent_most (Set domain t s ns) bytes e = omega arith
lent_most (Cycle t) bytes e = lent_least (pair_at bytes 12) e
lent_most (Confirm domain t counter) bytes e = lent_least (pair_at bytes 13) e

asked :
    (n : Node) (item : ℕ) (q : Request) (bytes : List ℕ) {frame left : List ℕ} {count lent : ℕ}
    {r : NodeStep CallAnswer} {before after : Out} →
    frame ≡ padded_frame bytes → count ≡ get_or bytes 3 0 → lent ≡ lent_length q bytes →
    CalledIn n q (take count frame) (take lent buffer) r left → length left ≡ length (take lent buffer) →
    Wrote (trial_line item r.answer (take lent (left ++ drop lent buffer))) before after →
    Answered (trial_line item) n q (given_frame bytes) (lent_buffer bytes q) before
    (record { node = r.node; goes_on = true }) after
asked n item q bytes {left} {lent} {r} e f g called long line =
    let most : lent ≤ 512 = lent_most q bytes g in
    answered (trial_line item)
    (subst₂ (λ xs ys. CalledIn n q xs ys r left) (λ i. take (f i) (e i))
    (lent_is lent most ∙ ap (λ (k : ℕ). replicate k 0xA5) g) called)
    (named (ap (trial_line item r.answer) (shown_is lent most left long)) line)

pub returns : goal.returns
returns c =
    asked c.args.node c.args.item c.args.request c.args.bytes.now
    c.padded_frame-frame.ensures
    c.byte_at-frame_length.ensures
    c.lent_length-length.ensures
    c.call-called.ensures
    c.call-called.auto.out
    c.put_trial_line.ensures
