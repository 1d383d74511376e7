-- No two results satisfy a promise of this crate. A result is the step, with the place and the lent bytes that
-- `Out` is left with. No contract cites this file.
-- Assumes nothing.
use Prim.Native.Nat.{ℕ}
use mathlib.Core.List.{List}
use Rattle.promise.specs.Only.{OnlyOne}
use Rattle.text.specs.declared.Out.{Out}
use Rattle.text.proofs.Only.{left}
use Rattle.node.specs.declared.Node.{Node}
use Rattle.bench_record.specs.declared.step.Step.{Step}
use Rattle.bench_record.specs.Record.{asked_by}
use Rattle.bench_record.proofs.step.Only.{stepped_only, record_stepped_only}
use Rattle.trial_step.specs.TrialLine.{trial_line}
use Rattle.trial_step.specs.declared.item.Item.{Item}
use Rattle.trial_step.specs.declared.item.Item.TheVariants.{Settings, Queue, One, Record}
use Rattle.trial_step.specs.Item.{item_of}
use Rattle.trial_step.specs.Step.{given_frame, lent_buffer, ItemStepped, TrialStepped}

pub trial_step_only :
    (n : Node) (item : ℕ) (bytes : List ℕ) (before : Out) →
    OnlyOne (λ (r : Step × (ℕ × List ℕ)). TrialStepped n item bytes before r.0 (left before r.1))
trial_step_only n item bytes before = go (item_of bytes)
  where
    go : (i : Item) → OnlyOne (λ (r : Step × (ℕ × List ℕ)). ItemStepped i n item bytes before r.0 (left before r.1))
    go Settings = stepped_only _ _ _ before
    go Queue = stepped_only _ _ _ before
    go One = stepped_only _ _ _ before
    go Record =
        record_stepped_only (asked_by bytes) (trial_line item) (given_frame bytes) (lent_buffer bytes) n item before
