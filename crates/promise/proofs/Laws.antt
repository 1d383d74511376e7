-- Laws of `OnlyOne`. No contract cites this file.
--   equation_only   a promise that is an equation, `r ≡ d`, leaves one result
-- Assumes nothing.
use mathlib.Core.Path.{◌≡◌, ◌∙◌, sym}
use Rattle.promise.specs.Only.{OnlyOne}

pub equation_only : {A : Type 0} (d : A) → OnlyOne (λ (r : A). r ≡ d)
equation_only d x y p q = p ∙ sym q
