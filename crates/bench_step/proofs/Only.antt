-- No two results satisfy the promise of `bench_step`. A result is the step, with the place and the lent bytes that `Out`
-- is left with. No contract cites this file.
-- Assumes nothing.
use Prim.Native.Nat.{ℕ}
use mathlib.Core.List.{List}
use Rattle.promise.specs.Only.{OnlyOne}
use Rattle.text.specs.declared.Out.{Out}
use Rattle.text.proofs.Only.{left}
use Rattle.node.specs.declared.Node.{Node}
use Rattle.bench_record.specs.declared.step.Step.{Step}
use Rattle.bench_record.specs.Record.{asked_by, payload_of, lent}
use Rattle.bench_record.proofs.step.Only.{record_stepped_only}
use Rattle.bench_step.specs.BenchLine.{bench_line}
use Rattle.bench_step.specs.Step.{BenchStepped}

pub bench_step_only :
    (n : Node) (item : ℕ) (bytes : List ℕ) (before : Out) →
    OnlyOne (λ (r : Step × (ℕ × List ℕ)). BenchStepped n item bytes before r.0 (left before r.1))
bench_step_only n item bytes =
    record_stepped_only (asked_by bytes) (bench_line item) (payload_of bytes) (λ q. lent) n item
