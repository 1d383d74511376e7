-- No two results satisfy the promise of `entry_of`. No contract cites this file. Assumes nothing.
use Prim.Native.Nat.{ℕ}
use mathlib.Core.Path.{◌≡◌}
use mathlib.Core.List.{List}
use Rattle.std.specs.Prelude.{Option}
use Rattle.promise.specs.Only.{OnlyOne}
use Rattle.promise.proofs.Laws.{equation_only}
use Rattle.node_call.specs.declared.CallAnswer.{CallAnswer}
use Rattle.sheet_tally.specs.declared.entry.Entry.{Entry}
use Rattle.sheet_tally.specs.Entry.{entry_of}

pub entry_of_only : (answer : CallAnswer) (bytes : List ℕ) → OnlyOne (λ (r : Option Entry). r ≡ entry_of answer bytes)
entry_of_only answer bytes = equation_only (entry_of answer bytes)
