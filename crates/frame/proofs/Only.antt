-- No two results satisfy the promise of F, as `F_only` for each public function F. No contract cites
-- this file.
-- Assumes nothing.
use Rattle.std.specs.Prelude.{Option}
use Prim.Native.Nat.{ℕ}
use mathlib.Core.Path.{◌≡◌}
use mathlib.Core.List.{List}
use Rattle.promise.specs.Only.{OnlyOne}
use Rattle.promise.proofs.Laws.{equation_only}
use Rattle.frame.specs.Types.{type_of}
use Rattle.frame.specs.ByteTwo.{domain_of, counter_of, byte_two_of}
use Rattle.frame.specs.Ids.{id_at}
use Rattle.frame.specs.declared.values.Frame.{Frame}
use Rattle.frame.specs.Values.{domain_in}
use Rattle.frame.specs.declared.types.FrameType.{FrameType}

pub of_only : (byte : ℕ) → OnlyOne (λ (r : Option FrameType). r ≡ type_of byte)
of_only byte = equation_only _

pub domain_of_only : (two : ℕ) → OnlyOne (λ (r : ℕ). r ≡ domain_of two)
domain_of_only two = equation_only _

pub counter_of_only : (two : ℕ) → OnlyOne (λ (r : ℕ). r ≡ counter_of two)
counter_of_only two = equation_only _

pub byte_two_only : (domain counter : ℕ) → OnlyOne (λ (r : ℕ). r ≡ byte_two_of domain counter)
byte_two_only domain counter = equation_only _

pub id_at_only : (list : List ℕ) (counter : ℕ) → OnlyOne (λ (r : ℕ). r ≡ id_at list counter)
id_at_only list counter = equation_only _

pub domain_only : (values : Frame) → OnlyOne (λ (r : ℕ). r ≡ domain_in values)
domain_only values = equation_only _
