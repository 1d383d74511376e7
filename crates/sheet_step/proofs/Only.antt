-- No two results satisfy the promise of F, as `F_only` for each public function F. No contract cites this file.
-- Assumes nothing.
use Prim.Native.Nat.{ℕ, ◌/◌}
use mathlib.Core.Path.{◌≡◌}
use mathlib.Core.List.{List}
use lib.ListN.{length}
use Rattle.promise.specs.Only.{OnlyOne}
use Rattle.promise.proofs.Laws.{equation_only}
use Rattle.node.specs.declared.Node.{Node}
use Rattle.sheet_step.specs.declared.Account.{Account}
use Rattle.sheet_step.specs.Account.{account_of, after_record, after_records, records_of}

pub new_only : (n : Node) → OnlyOne (λ (r : Account). r ≡ account_of n)
new_only n = equation_only (account_of n)

pub take_record_only : (a : Account) (bytes : List ℕ) → OnlyOne (λ (r : Account). r ≡ after_record a bytes)
take_record_only a bytes = equation_only (after_record a bytes)

pub take_records_only :
    (a : Account) (bytes : List ℕ) →
    OnlyOne (λ (r : Account). r ≡ after_records a (records_of (length bytes / 20) bytes))
take_records_only a bytes = equation_only (after_records a (records_of (length bytes / 20) bytes))
