-- No two results satisfy the promise of F, as `F_only` for each public function F. A result with lent words or bytes
-- is a pair of them all. No contract cites this file.
-- Assumes nothing.
use Prim.Native.Nat.{ℕ}
use mathlib.Core.Path.{sym, ◌∙◌}
use mathlib.Core.List.{List}
use lib.IntN.{ℤ}
use Rattle.promise.specs.Only.{OnlyOne}
use Rattle.words_frame.specs.Frame.{FramedIn}
use Rattle.words_frame.specs.Queue.{QueuedIn}

pub frame_in_only :
    (words : List ℕ) (t : ℕ) (bytes : List ℕ) (before : List ℤ) →
    OnlyOne (λ (r : ℕ × (List ℕ × List ℤ)). FramedIn words t bytes before r.0 r.1.0 r.1.1)
frame_in_only words t bytes before x y p q =
    let number = p.number ∙ sym q.number in
    let after = p.words_after ∙ sym q.words_after in
    let tells = p.tells ∙ sym q.tells in
    λ i. (number i, (after i, tells i))

pub queue_in_only :
    (words ts fs before : List ℕ) →
    OnlyOne (λ (r : ℕ × (List ℕ × List ℕ)). QueuedIn words ts fs before r.0 r.1.0 r.1.1)
queue_in_only words ts fs before x y p q =
    let number = p.number ∙ sym q.number in
    let after = p.words_after ∙ sym q.words_after in
    let bytes = p.bytes ∙ sym q.bytes in
    λ i. (number i, (after i, bytes i))
