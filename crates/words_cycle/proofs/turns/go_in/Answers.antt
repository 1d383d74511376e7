-- A turn keeps the invariant, and with no turn left the round is done.
--   left_is   what is left, by another name for the number of turns
use Rattle.std.proofs.Common.{ℕ, ◌+◌, ◌≤◌, ◌≡◌, refl, subst, List, arith}
use Rattle.clock.specs.declared.reading.VirtualLocalTime.{VirtualLocalTime}
use Rattle.words_cycle.specs.Cycle.{Went}
use Rattle.words_cycle.proofs.Turned.{One, over, asked_rests, asked_sends}
use Rattle.words_cycle.proofs.Rest.{Rest, onward, at_end}
use Rattle.words_cycle.proofs.turns.go_in.Goals.{then-sent-most+then-turn_in, then-sent-most+else-turn_in, else-sent-most}
use Rattle.words_cycle.proofs.turns.go_in.Goals as goal

left_is :
    {whole : Went} {first out words : List ℕ} {most k j at sent next : ℕ} {t : VirtualLocalTime} →
    Rest whole first most t k at sent words next out → k ≡ j → Rest whole first most t j at sent words next out
left_is {whole} {first} {out} {words} {most} {at = at} {sent} {next} {t} r e =
    subst (λ (x : ℕ). Rest whole first most t x at sent words next out) e r

pub loop-turns-init : goal.loop-turns-init
loop-turns-init c = (
  omega arith,
  omega arith,
  record { words_after = refl; next_one = refl; count = omega arith; bytes = refl },
)

pub loop-turns-preserved : goal.loop-turns-preserved
loop-turns-preserved c =
    let a = c.args in
    let l = c.loop-turns in
    let j = c.if-sent-most in
    let turned : (j.sent ≤ l.sent + 1) × One l.node l.at l.sent a.most l.next a.t l.out j.node j.sent j.next j.out =
    elim j.branch [
      | then-sent-most+then-turn_in w ↦ (
        omega arith,
        rw (w.node-is, w.out-is, w.next-is, w.sent-is)
            (asked_sends _ _ _ _ _ _ _ _ _ _ w.if-sent-most.true w.turn_in.ensures w.if-turn_in.true l.invariant.0),
      )
      | then-sent-most+else-turn_in w ↦ (
        omega arith,
        rw (w.node-is, w.out-is, w.next-is, w.sent-is)
            (asked_rests _ _ _ _ _ _ _ _ _ _ w.if-sent-most.true w.turn_in.ensures w.if-turn_in.false),
      )
      | else-sent-most w ↦ (
        omega arith,
        rw (w.node-is, w.out-is, w.next-is, w.sent-is) (over _ _ _ _ _ _ _ w.if-sent-most.false),
      )
    ] in (
      omega arith,
      omega (arith, turned.0),
      onward _ _ _ _ _ _ _ _ _ _ _ _ _ _ turned.1 (left_is l.invariant.2 (omega arith)),
    )

pub returns : goal.returns
returns c = at_end _ _ _ _ _ _ _ _ _ _ (left_is c.loop-turns.invariant.2 (omega arith))
