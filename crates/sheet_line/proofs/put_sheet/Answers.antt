-- `sheet_line::put_sheet` meets its contract: a turn writes the line of the first domain that is left. Assumes nothing.
use Prim.Native.Nat.{◌<◌}
use native.Mathlib.Omega.{arith}
use Rattle.text.proofs.Wrote.{then, turn, ended}
use Rattle.settings.specs.Node.{places}
use Rattle.node.proofs.Sixteen as node_laws
use Rattle.sheet_tally.proofs.sheet.Sixteen as sheet_laws
use Rattle.sheet_line.proofs.Slaves.{one_more, no_more}
use Rattle.sheet_line.proofs.put_sheet.Goals as goal

pub loop-d-preserved : goal.loop-d-preserved
loop-d-preserved c =
    let n = c.args.node in
    let s = c.args.sheet in
    let d = c.loop-d.d in
    let h : d < places = omega arith in
    let one = node_laws.looked_up n _ c.well_formed.1.0 d _ h in
    let tally = sheet_laws.looked_up s _ c.well_formed.1.1.0 d _ h in
    turn (one_more n s d h one tally) c.put_domain.ensures c.loop-d.invariant

pub returns : goal.returns
returns c =
    then
    (ended (no_more c.args.node c.args.sheet c.loop-d.d (omega arith)) c.loop-d.invariant)
    c.put_other.ensures
