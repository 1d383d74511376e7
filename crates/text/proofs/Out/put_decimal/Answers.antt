-- `text::Out::put_decimal` meets its contract: what `io::decimal` spells is the number in decimal. Assumes nothing.
use mathlib.Core.Path.{◌∙◌}
use native.Mathlib.Omega.{arith}
use Rattle.text.proofs.Wrote.{named}
use Rattle.text.proofs.Digits.{spells}
use Rattle.text.proofs.Out.put_decimal.Goals as goal

pub returns : goal.returns
returns c =
    let d = c.decimal-count in
    named (d.ensures.digits ∙ spells 19 c.args.n d.result (omega arith) d.ensures.len) c.put_bytes.ensures
