-- Paper 02, request 13: "per slave domain", and "all other whole records". Assumes nothing.
use Rattle.std.specs.Prelude.{ℕ, cond, List, ltb, Option, Some, None}
use Rattle.frame_read.specs.Read.{named_domain}
use Rattle.node_call.specs.declared.CallAnswer.{CallAnswer}
use Rattle.node_call.specs.declared.CallAnswer.TheVariants.{Frame, Read, Set, Cycle, Confirm}
use Rattle.sheet_tally.specs.declared.entry.Entry.{Entry}
use Rattle.sheet_tally.specs.Tally.{columns, column_of}
use Rattle.refusal.specs.Numbers.{Outcome}
use Rattle.slave_answer.specs.declared.Taken.{Taken}

-- ---- A frame that a column counts is the domain's that it names.
abbrev pub entry_by : Outcome Taken → (bytes : List ℕ) → Option Entry
entry_by answer bytes =
    cond (ltb (column_of answer) columns) (Some (record { named = named_domain bytes; answer = answer })) None

-- ---- All else is one of the others, which `None` is.
abbrev pub entry_of : CallAnswer → (bytes : List ℕ) → Option Entry
entry_of (Frame answer) bytes = entry_by answer bytes
entry_of (Read answer) bytes = None
entry_of (Set answer) bytes = None
entry_of (Cycle answer) bytes = None
entry_of (Confirm answer) bytes = None
