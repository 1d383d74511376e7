-- No two results satisfy the promise of F, as `F_only` for each public function F. No contract cites
-- this file.
-- Assumes nothing.
use Prim.Native.Nat.{ℕ}
use mathlib.Core.Path.{◌≡◌}
use mathlib.Core.List.{List}
use lib.ListN.{get_or}
use Rattle.promise.specs.Only.{OnlyOne}
use Rattle.promise.proofs.Laws.{equation_only}
use Rattle.text.specs.Fields.{pair_at, word_at, long_at, bytes_at}

pub byte_at_only : (bytes : List ℕ) (at : ℕ) → OnlyOne (λ (r : ℕ). r ≡ get_or bytes at 0)
byte_at_only bytes at = equation_only _

pub pair_at_only : (bytes : List ℕ) (at : ℕ) → OnlyOne (λ (r : ℕ). r ≡ pair_at bytes at)
pair_at_only bytes at = equation_only _

pub word_at_only : (bytes : List ℕ) (at : ℕ) → OnlyOne (λ (r : ℕ). r ≡ word_at bytes at)
word_at_only bytes at = equation_only _

pub long_at_only : (bytes : List ℕ) (at : ℕ) → OnlyOne (λ (r : ℕ). r ≡ long_at bytes at)
long_at_only bytes at = equation_only _

pub sixteen_at_only : (bytes : List ℕ) (at : ℕ) → OnlyOne (λ (r : List ℕ). r ≡ bytes_at 16 bytes at)
sixteen_at_only bytes at = equation_only _
