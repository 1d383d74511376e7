-- `trial_step::queue::take_queue` meets its contract: the lent parts are the item's readings, its frame bytes and a
-- buffer of A5s, and what is shown of the buffer is what the call left there. Assumes nothing.
use Prim.Native.Nat.{ℕ, ◌≤◌, ◌<◌, min}
use mathlib.Core.Path.{◌≡◌, ap, subst₃, ◌∙◌}
use mathlib.Core.Bool.{true}
use mathlib.Core.List.{List, ◌++◌}
use native.Mathlib.Omega.{arith}
use lib.ListN.{length, get_or, take, drop, replicate}
use Rattle.text.specs.declared.Out.{Out}
use Rattle.text.specs.Text.{Wrote}
use Rattle.text.specs.Fields.{pair_at, long_at, longs_at}
use Rattle.text.proofs.Wrote.{named}
use Rattle.text.proofs.fields.Laws.{fields_take}
use Rattle.node.specs.declared.Node.{Node}
use Rattle.node_queue.specs.declared.NodeQueue.{NodeQueue}
use Rattle.node_queue.specs.Queue.{QueuedIn}
use Rattle.trial_step.specs.TrialLine.{queue_line}
use Rattle.trial_step.specs.Queue.{given_readings, given_frames, lent_answers, QueueStepped}
use Rattle.trial_step.proofs.Laws.{buffer, lent_least, lent_is, shown_is}
use Rattle.trial_step.proofs.queue.Laws.{queued}
use Rattle.trial_step.proofs.queue.take_queue.Goals as goal

taken :
    (n : Node) (item : ℕ) (bytes : List ℕ) {readings frames left : List ℕ} {count room : ℕ}
    {r : NodeQueue} {before after : Out} →
    count ≡ get_or bytes 3 0 → count < 256 → readings ≡ longs_at 255 bytes 20 → frames ≡ given_frames bytes →
    room ≡ min (pair_at bytes 12) 512 → QueuedIn n (take count readings) frames (take room buffer) r left →
    length left ≡ length (take room buffer) →
    Wrote (queue_line item r.answer (take room (left ++ drop room buffer))) before after →
    QueueStepped n item bytes before (record { node = r.node; goes_on = true }) after
taken n item bytes {readings} {left} {count} {room} {r} c m rs fs b q long line =
    let ts : take count readings ≡ given_readings bytes =
    ap (take count) rs ∙ fields_take (long_at bytes) 8 count 255 20 (omega arith) ∙ ap (λ (k : ℕ). longs_at k bytes 20) c
    in
    let most : room ≤ 512 = lent_least (pair_at bytes 12) b in
    let lent : take room buffer ≡ lent_answers bytes = lent_is room most ∙ ap (λ (k : ℕ). replicate k 0xA5) b in
    queued item bytes (subst₃ (λ xs ys zs. QueuedIn n xs ys zs r left) ts fs lent q)
    (named (ap (queue_line item r.answer) (shown_is room most left long)) line)

pub returns : goal.returns
returns c =
    taken c.args.node c.args.item c.args.bytes.now
    c.byte_at-count.ensures
    c.byte_at-count.type_inv
    c.readings_of-readings.ensures
    c.frames_of.ensures
    (c.min-room.ensures ∙ ap (λ (k : ℕ). min k 512) c.pair_at.ensures)
    c.on_queue-queued.ensures
    c.on_queue-queued.auto.answers
    c.put_queue_line.ensures
