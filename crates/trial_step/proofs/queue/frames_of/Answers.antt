-- `trial_step::queue::frames_of` meets its contract: the part is `part_is`. Assumes nothing.
use Prim.Native.Nat.{ℕ, ◌+◌, ◌-◌, ◌*◌, min}
use mathlib.Core.Path.{ap, ◌∙◌}
use lib.ListN.{length, take, drop}
use Rattle.trial_step.specs.Queue.{frame_bytes}
use Rattle.trial_step.proofs.queue.Laws.{part_is}
use Rattle.trial_step.proofs.queue.frames_of.Goals as goal

pub returns : goal.returns
returns c =
    let bytes = c.args.bytes.now in
    part_is bytes (20 + 8 * c.byte_at-count.result) (frame_bytes bytes) c.min-start.ensures
    (c.min.ensures ∙ ap (λ (k : ℕ). min k (length bytes - c.min-start.result)) c.frame_bytes.ensures)
    ∙ ap (λ (k : ℕ). take (frame_bytes bytes) (drop (20 + 8 * k) bytes)) c.byte_at-count.ensures
