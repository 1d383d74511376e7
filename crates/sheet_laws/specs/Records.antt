-- Paper 02, request 13: the sheet of records, in whatever pieces their bytes come. Assumes nothing.
use Rattle.std.specs.Prelude.{ℕ, ◌*◌, ◌/◌, ◌^◌, ◌<◌, ◌≡◌, List, [], ◌∷◌, ◌++◌, ltb, length, drop}
use Rattle.node.specs.declared.Node.{Node}
use Rattle.node_call.specs.Calls.{node_after_all}
use Rattle.sheet_tally.specs.Sheet.{no_sheet}
use Rattle.sheet_step.specs.declared.Account.{Account}
use Rattle.sheet_step.specs.Account.{account_of, after_records, records_of}
use Rattle.sheet_laws.specs.Calls.{calls_of, sheet_after}
use Rattle.sheet_laws.specs.Totals.{printed_count}

-- ---- What records make of a node: the node and the sheet of their calls, the count of those read, and whether one was
-- bad.
pub record Read (n : Node) (rs : List (List ℕ)) (a : Account) : Type 0 where
  pub node : a.node ≡ node_after_all n (calls_of rs)
  pub sheet : a.sheet ≡ sheet_after n no_sheet (calls_of rs)
  pub records : a.records ≡ length (calls_of rs)
  pub bad : a.bad ≡ ltb (length (calls_of rs)) (length rs)

abbrev pub RecordsRead : Type 0
RecordsRead =
    (n : Node) (rs : List (List ℕ)) → length rs < 2 ^ 64 → Read n rs (after_records (account_of n) rs)

-- ---- "the counts add up to the whole records read", of what is printed
abbrev pub RecordsAddUp : Type 0
RecordsAddUp =
    (n : Node) (rs : List (List ℕ)) → length rs < 2 ^ 64 → let a = after_records (account_of n) rs in
    printed_count a.node a.sheet ≡ a.records

-- ---- Bytes in pieces, as the program reads them: the whole records of what is held and of the piece, and the rest is
-- held.
abbrev pub joined : List (List ℕ) → List ℕ
joined [] = []
joined (piece ∷ rest) = piece ++ joined rest

abbrev pub taken_of : Account → (bytes : List ℕ) → Account
taken_of a bytes = after_records a (records_of (length bytes / 20) bytes)

abbrev pub rest_of : (bytes : List ℕ) → List ℕ
rest_of bytes = drop (length bytes / 20 * 20) bytes

abbrev pub account_in : Account → (held : List ℕ) (pieces : List (List ℕ)) → Account
account_in a held [] = a
account_in a held (piece ∷ rest) = account_in (taken_of a (held ++ piece)) (rest_of (held ++ piece)) rest

abbrev pub held_in : (held : List ℕ) (pieces : List (List ℕ)) → List ℕ
held_in held [] = held
held_in held (piece ∷ rest) = held_in (rest_of (held ++ piece)) rest

-- ---- They are taken as if they had come at once.
abbrev pub InPieces : Type 0
InPieces =
    (a : Account) (pieces : List (List ℕ)) →
    (account_in a [] pieces ≡ taken_of a (joined pieces)) × (held_in [] pieces ≡ rest_of (joined pieces))
