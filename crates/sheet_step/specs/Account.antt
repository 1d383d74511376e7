-- Paper 02, request 13: "reads bench records". Assumes nothing.
use Rattle.std.specs.Prelude.{ℕ, zero, suc, true, false, cond, List, [], ◌∷◌, take, drop, None, Option, Some}
use Rattle.text.specs.Pieces.{next_item}
use Rattle.bench_record.specs.Record.{asked_by, payload_of, lent}
use Rattle.node.specs.declared.Node.{Node}
use Rattle.node_call.specs.declared.Request.{Request}
use Rattle.node_call.specs.Calls.{node_after, answer_of}
use Rattle.node_call.specs.Called.{call_of}
use Rattle.sheet_tally.specs.Entry.{entry_of}
use Rattle.sheet_tally.specs.Sheet.{no_sheet, sheet_with}
use Rattle.sheet_step.specs.declared.Account.{Account}

abbrev pub account_of : Node → Account
account_of n = record { node = n; sheet = no_sheet; records = 0; bad = false }

-- ---- The call of a record, its answer counted.
abbrev pub called : Account → Request → (payload : List ℕ) → Account
called a q payload =
    let c = call_of q payload lent in
    record {
      node = node_after a.node c;
      sheet = sheet_with a.sheet (entry_of (answer_of a.node c) payload);
      records = next_item a.records;
      bad = a.bad;
    }

-- ---- "a bad record isn't counted as read", and nothing is read after it.
abbrev pub after_asked : Account → Option Request → (payload : List ℕ) → Account
after_asked a (Some q) payload = called a q payload
after_asked a None payload = record { node = a.node; sheet = a.sheet; records = a.records; bad = true }

abbrev pub after_record : Account → (bytes : List ℕ) → Account
after_record a bytes = cond a.bad a (after_asked a (asked_by bytes) (payload_of bytes))

abbrev pub after_records : Account → List (List ℕ) → Account
after_records a [] = a
after_records a (r ∷ rest) = after_records (after_record a r) rest

-- ---- Bytes in records of 20.
abbrev pub records_of : (k : ℕ) → List ℕ → List (List ℕ)
records_of zero bytes = []
records_of (suc k) bytes = take 20 bytes ∷ records_of k (drop 20 bytes)
