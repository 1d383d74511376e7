-- No two results satisfy the promise of F, as `F_only` for each public function F. No contract cites
-- this file.
-- Assumes nothing.
use Rattle.std.specs.Prelude.{Result}
use Prim.Native.Nat.{ℕ}
use mathlib.Core.Path.{◌≡◌}
use mathlib.Core.List.{List}
use Rattle.promise.specs.Only.{OnlyOne}
use Rattle.promise.proofs.Laws.{equation_only}
use Rattle.refusal.specs.declared.Refusal.{Refusal}
use Rattle.frame_read.specs.Read.{read_of, named_domain, refusal_of}
use Rattle.frame.specs.declared.values.Frame.{Frame}
use Rattle.frame_read.specs.declared.NoFrame.{NoFrame}

pub read_frame_only : (bytes : List ℕ) → OnlyOne (λ (r : Result Frame NoFrame). r ≡ read_of bytes)
read_frame_only bytes = equation_only _

pub named_domain_only : (bytes : List ℕ) → OnlyOne (λ (r : ℕ). r ≡ named_domain bytes)
named_domain_only bytes = equation_only _

pub from_only : (why : NoFrame) → OnlyOne (λ (r : Refusal). r ≡ refusal_of why)
from_only why = equation_only _
