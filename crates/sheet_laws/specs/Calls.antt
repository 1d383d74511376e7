-- Paper 02, request 13: the calls that records ask for, and the sheet of calls. Assumes nothing.
use Rattle.std.specs.Prelude.{ℕ, List, [], ◌∷◌, None, Option, Some}
use Rattle.bench_record.specs.Record.{asked_by, payload_of, lent}
use Rattle.node.specs.declared.Node.{Node}
use Rattle.node_call.specs.Calls.{Call, frame, read, set, cycle, confirm, node_after, answer_of}
use Rattle.node_call.specs.Called.{call_of}
use Rattle.sheet_tally.specs.declared.entry.Entry.{Entry}
use Rattle.sheet_tally.specs.Entry.{entry_of}
use Rattle.sheet_tally.specs.declared.sheet.Sheet.{Sheet}
use Rattle.sheet_tally.specs.Sheet.{sheet_with}
use Rattle.node_call.specs.declared.Request.{Request}

-- ---- The whole records that are read: those before the first bad one, each as the call that it asks for.
abbrev pub asked_then : Option Request → (payload : List ℕ) → (rest : List Call) → List Call
asked_then (Some q) payload rest = call_of q payload lent ∷ rest
asked_then None payload rest = []

abbrev pub calls_of : List (List ℕ) → List Call
calls_of [] = []
calls_of (r ∷ rest) = asked_then (asked_by r) (payload_of r) (calls_of rest)

-- ---- The bytes of a frame; another call has none.
abbrev pub frame_in : Call → List ℕ
frame_in (frame t bytes) = bytes
frame_in (read domain t) = []
frame_in (set domain t s ns) = []
frame_in (cycle t out) = []
frame_in (confirm domain t counter out) = []

abbrev pub entry_in : Node → Call → Option Entry
entry_in n c = entry_of (answer_of n c) (frame_in c)

-- ---- The sheet after calls, one after another.
abbrev pub sheet_after : Node → Sheet → List Call → Sheet
sheet_after n s [] = s
sheet_after n s (c ∷ rest) = sheet_after (node_after n c) (sheet_with s (entry_in n c)) rest
