-- `text::Out::put_nine_digits` meets its contract. The invariant: the digits that are left, written from the place on,
-- make the nine, and the power is that of the digits left. Assumes nothing.
use Prim.Native.Nat.{◌-◌, ◌^◌}
use mathlib.Core.Path.{◌≡◌}
use Rattle.text.specs.Text.{digits}
use Rattle.text.proofs.Wrote.{Left}
use Rattle.text.proofs.Out.put_nine_digits.Given as goal

abbrev pub invariant-loop-i : goal.invariant-loop-i
invariant-loop-i l = Left (digits (9 - l._i) l.n) l.self (digits 9 l.n) l.initial.self
    × (l.power ≡ 10 ^ (9 - l._i))
