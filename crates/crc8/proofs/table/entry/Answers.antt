-- `crc8::entry` meets its contract, by the table's rule over all of it. The table is the list of the
-- eight steps of 0 to 255: antt computes that list and compares all 256 entries where `rule` is
-- checked, and `values_at` says what stands at an index. Assumes nothing.
use native.Mathlib.Omega.{arith}
use Rattle.crc8.specs.declared.table.TheConstants.{TABLE}
use Rattle.crc8.specs.Crc8.{step_of, eight_steps_of, EightStepsEach}
use Rattle.crc8.proofs.Values.{values_at}
use Rattle.crc8.proofs.table.entry.Goals as goal

pub rule : EightStepsEach TABLE
unfolding step_of eight_steps_of
rule = values_at eight_steps_of 256

pub returns : goal.returns
returns c = rule c.args.index (omega arith)
