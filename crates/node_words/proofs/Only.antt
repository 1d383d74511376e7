-- No two results satisfy the promise of F, as `F_only` for each public function F. A result with lent words or bytes
-- is a pair of them all. No contract cites this file.
-- Assumes nothing.
use Prim.Native.Nat.{ℕ, ◌%◌}
use mathlib.Core.Path.{◌≡◌}
use mathlib.Core.List.{List}
use Rattle.promise.specs.Only.{OnlyOne}
use Rattle.promise.proofs.Laws.{equation_only}
use Rattle.settings.specs.Node.{places}
use Rattle.domain.specs.declared.Domain.{Domain}
use Rattle.node_words.specs.Words.{record_of, frame_put, base_put, sent_put}

pub record_in_only : (words : List ℕ) (domain : ℕ) → OnlyOne (λ (r : Domain). r ≡ record_of words (domain % places))
record_in_only words domain = equation_only _

pub put_frame_only :
    (words : List ℕ) (at : ℕ) (d : Domain) → OnlyOne (λ (r : List ℕ). r ≡ frame_put words (at % places) d)
put_frame_only words at d = equation_only _

pub put_base_only :
    (words : List ℕ) (at : ℕ) (d : Domain) → OnlyOne (λ (r : List ℕ). r ≡ base_put words (at % places) d)
put_base_only words at d = equation_only _

pub put_sent_only :
    (words : List ℕ) (at : ℕ) (d : Domain) → OnlyOne (λ (r : List ℕ). r ≡ sent_put words (at % places) d)
put_sent_only words at d = equation_only _
