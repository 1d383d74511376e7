-- The invariant: what is left of the queue gives what all of it gives (`Rest`), and a frame keeps it (`onward`).
-- Assumes nothing.
use Rattle.std.specs.Prelude.{Ok}
use Rattle.std.proofs.Common.{◌≡◌, ◌*◌, ◌≤◌, length}
use Rattle.words_frame.specs.Queue.{queue_words, queue_numbers}
use Rattle.words_frame.proofs.Rest.{Rest}
use Rattle.words_frame.proofs.queues.queue_in.Given as goal

abbrev pub invariant-loop-i : goal.invariant-loop-i
invariant-loop-i l =
    (length l.readings ≤ 32) × (length l.frames ≡ 8 * length l.readings)
    × (length l.readings ≤ length l.initial.answers) × (length l.answers ≡ length l.initial.answers)
    × Rest (queue_words (Ok tt) l.initial.node l.readings l.frames)
    (queue_numbers (Ok tt) l.initial.node l.readings l.frames l.initial.answers) l.readings l.frames l.i l.node l.answers
