-- `text::Out::put_hex_byte` meets its contract: one digit after the other. Assumes nothing.
use mathlib.Core.Path.{ap}
use mathlib.Core.List.{[], ◌∷◌}
use Rattle.text.proofs.Wrote.{then, named}
use Rattle.text.proofs.Out.put_hex_byte.Goals as goal

pub returns : goal.returns
returns c =
    then
    (named (ap (λ d. d ∷ []) c.hex_digit.ensures) c.put_byte.ensures)
    (named (ap (λ d. d ∷ []) c.hex_digit-2.ensures) c.put_byte-2.ensures)
