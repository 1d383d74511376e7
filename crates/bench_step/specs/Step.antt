-- Paper 01, "Bench program": a record of the bench, its call and its line. Assumes nothing.
use Rattle.std.specs.Prelude.{ℕ, List}
use Rattle.text.specs.declared.Out.{Out}
use Rattle.node.specs.declared.Node.{Node}
use Rattle.bench_record.specs.declared.step.Step.{Step}
use Rattle.bench_record.specs.Record.{asked_by, payload_of, lent}
use Rattle.bench_record.specs.Step.{RecordStepped}
use Rattle.bench_step.specs.BenchLine.{bench_line}

-- ---- The payload is the call's frame.
abbrev pub BenchStepped : Node → (item : ℕ) (bytes : List ℕ) (before : Out) → Step → Out → Type 0
BenchStepped n item bytes before r after =
    RecordStepped (asked_by bytes) (bench_line item) (payload_of bytes) (λ q. lent) n item before r after
