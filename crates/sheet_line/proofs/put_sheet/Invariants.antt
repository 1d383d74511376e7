-- `sheet_line::put_sheet` meets its contract. The invariant: the lines of the domains that are left, written from the
-- place on, make those of all. Assumes nothing.
use Prim.Native.Nat.{◌-◌}
use Rattle.text.proofs.Wrote.{Left}
use Rattle.settings.specs.Node.{places}
use Rattle.sheet_line.specs.Line.{slaves_text}
use Rattle.sheet_line.proofs.put_sheet.Given as goal

abbrev pub invariant-loop-d : goal.invariant-loop-d
invariant-loop-d l =
    Left (slaves_text (places - l.d) l.d l.node l.sheet) l.out (slaves_text places 0 l.node l.sheet)
    l.initial.out
