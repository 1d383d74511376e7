-- No two results satisfy the promise of `go_round`: a result is a pair of the round and the lent bytes. No
-- contract cites this file.
-- Assumes nothing.
use Prim.Native.Nat.{ℕ}
use mathlib.Core.Path.{sym, ◌∙◌}
use mathlib.Core.List.{List}
use Rattle.promise.specs.Only.{OnlyOne}
use Rattle.clock.specs.declared.reading.VirtualLocalTime.{VirtualLocalTime}
use Rattle.domain.specs.declared.Domain.{Domain}
use Rattle.round.specs.declared.Round.{Round}
use Rattle.round.specs.Round.{RoundIn}

pub go_round_only :
    (ds : List Domain) (first : ℕ) (t : VirtualLocalTime) (most : ℕ) (before : List ℕ) →
    OnlyOne (λ (r : Round × List ℕ). RoundIn ds first t most before r.0 r.1)
go_round_only ds first t most before x y p q =
    λ i. ((p.round ∙ sym q.round) i, (p.bytes ∙ sym q.bytes) i)
