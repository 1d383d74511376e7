-- `text::Out::put_nine_digits` meets its contract: a turn writes the first digit that is left. Assumes nothing.
use Prim.Native.Nat.{◌+◌, ◌-◌}
use mathlib.Core.Path.{◌≡◌, ap}
use native.Mathlib.Nat.{one-le-pow}
use native.Mathlib.Omega.{arith}
use Rattle.text.specs.Text.{digits}
use Rattle.text.proofs.Wrote.{turn, ended}
use Rattle.text.proofs.Digits.{digits_next, power_next}
use Rattle.text.proofs.Out.put_nine_digits.Goals as goal

pub nonzero_div-n : goal.nonzero_div-n
nonzero_div-n c =
    let left = 9 - c.loop-i._i in
    omega (
      arith,
      power_next left _ (omega arith) c.loop-i.invariant.1,
      one-le-pow (left - 1) 10 (omega arith),
    )

pub loop-i-preserved : goal.loop-i-preserved
loop-i-preserved c =
    let left = 9 - c.loop-i._i in
    let less : left - 1 ≡ 9 - (c.loop-i._i + 1) = omega arith in
    let power = power_next left _ (omega arith) c.loop-i.invariant.1 in
    rw (← less) (
      turn (digits_next left c.args.n _ (omega arith) power) c.put_byte.ensures c.loop-i.invariant.0,
      power,
    )

pub returns : goal.returns
unfolding digits
returns c =
    ended (ap (λ k. digits k c.args.n) {x = 9 - c.loop-i._i} {y = 0} (omega arith)) c.loop-i.invariant.0
