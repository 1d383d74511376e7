-- A frame on one record, kind 7 of the trial (paper 02, request 11), and its line. Assumes nothing.
use Rattle.std.specs.Prelude.{ℕ, ◌-◌, ◌/◌, ◌%◌, List, get_or, take}
use Rattle.text.specs.declared.Out.{Out}
use Rattle.text.specs.Fields.{long_at}
use Rattle.settings.specs.Node.{places}
use Rattle.domain.specs.Records.{record_at}
use Rattle.call_frame.specs.FrameCall.{frame_call_of}
use Rattle.node.specs.declared.Node.{Node}
use Rattle.node.specs.Frame.{frame_stored}
use Rattle.bench_record.specs.declared.step.Step.{Step}
use Rattle.bench_record.specs.Record.{payload_of}
use Rattle.trial_step.specs.TrialLine.{Numbered}
use Rattle.node.specs.declared.NodeStep.{NodeStep}
use Rattle.refusal.specs.Numbers.{Outcome, outcome_number}
use Rattle.slave_answer.specs.declared.Taken.{Taken}

-- ---- Byte 3: the place in bits 4-0, and in bits 7-5 how many bytes the frame is short of eight.
abbrev pub place_in : List ℕ → ℕ
place_in bytes = get_or bytes 3 0 % 32

abbrev pub short_frame : List ℕ → List ℕ
short_frame bytes = take (8 - get_or bytes 3 0 / 32) (payload_of bytes)

-- ---- The frame on the record at the place, modulo 16; the record and the kept reading are stored.
abbrev pub one_taken : Node → List ℕ → NodeStep (Outcome Taken)
one_taken n bytes =
    let at = place_in bytes % places in
    frame_stored n at
    (frame_call_of (record_at n.domains at) n.kept (record { 0 = long_at bytes 4 }) (short_frame bytes))

abbrev pub OneStepped : Node → (item : ℕ) (bytes : List ℕ) (before : Out) → Step → Out → Type 0
OneStepped n item bytes before r after =
    let taken = one_taken n bytes in Numbered taken.node (outcome_number taken.answer) item before r after
