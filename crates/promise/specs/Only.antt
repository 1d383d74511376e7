-- Paper 01, "How strong each promise is": "no two results can satisfy it for the same input".
-- A promise at one input is a relation on results. A result with lent bytes is a pair of both.
-- Assumes nothing.
use Rattle.std.specs.Prelude.{◌≡◌}

abbrev pub OnlyOne : {A : Type 0} → (A → Type 0) → Type 0
OnlyOne {A} promise = (x y : A) → promise x → promise y → x ≡ y
