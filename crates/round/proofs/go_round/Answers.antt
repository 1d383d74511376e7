-- `round::go_round` meets its contract: a turn keeps the invariant, and with no turn left the round is done.
--   left_is   what is left, by another name for the number of turns
-- Assumes nothing.
use Rattle.std.proofs.Common.{rules, arith, ℕ, List, ◌≡◌, refl, subst, length-set}
use Rattle.promise.proofs.Lists.{get_d_any}
use Rattle.clock.specs.declared.reading.VirtualLocalTime.{VirtualLocalTime}
use Rattle.domain.specs.declared.Domain.{Domain}
use Rattle.round.specs.Round.{Gone}
use Rattle.round.proofs.Rest.{sent_least, Rest, onward, at_end}
use Rattle.round.proofs.go_round.Goals as goal

left_is :
    {whole : Gone} {first out : List ℕ} {most k j at sent next : ℕ} {t : VirtualLocalTime} {ds : List Domain} →
    Rest whole first most t k at sent ds next out → k ≡ j → Rest whole first most t j at sent ds next out
left_is {whole} {first} {out} {most} {at} {sent} {next} {t} {ds} r e =
    subst (λ (x : ℕ). Rest whole first most t x at sent ds next out) e r

pub loop-turns-preserved : goal.loop-turns-preserved
loop-turns-preserved c =
    let inv = c.loop-turns.invariant in (
      omega arith,
      omega arith,
      omega (arith, sent_least c.turn-step.result.answer c.loop-turns.sent),
      simp length-set inv.3,
      search rules,
      onward _ _ _ _ _ _ _ _ _ _ _ _ _ _ _ _
          c.turn-step.ensures
          (get_d_any c.loop-turns.records c.loop-turns.at _ _ (omega (arith, inv.3)))
          refl
          c.put-sent.ensures.count
          c.put-sent.ensures.bytes
          c.next_after-next.ensures
          (left_is inv.5 (omega arith)),
    )

pub returns : goal.returns
returns c = at_end _ _ _ _ _ _ _ _ _ _ (left_is c.loop-turns.invariant.5 (omega arith))
