-- No two results satisfy the promise of F, as `F_only` for each public function F. No contract cites this file.
-- Assumes nothing.
use Rattle.std.specs.Prelude.{Option}
use Prim.Native.Nat.{ℕ}
use mathlib.Core.Path.{◌≡◌}
use mathlib.Core.List.{List}
use Rattle.promise.specs.Only.{OnlyOne}
use Rattle.promise.proofs.Laws.{equation_only}
use Rattle.bench_record.specs.Record.{asked_by, payload_of}
use Rattle.node_call.specs.declared.Request.{Request}

pub asked_by_only : (bytes : List ℕ) → OnlyOne (λ (r : Option Request). r ≡ asked_by bytes)
asked_by_only bytes = equation_only (asked_by bytes)

pub payload_only : (bytes : List ℕ) → OnlyOne (λ (r : List ℕ). r ≡ payload_of bytes)
payload_only bytes = equation_only (payload_of bytes)
