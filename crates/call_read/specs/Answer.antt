-- Paper 01, "Refusal numbers": what a read answers. Assumes nothing.
use Rattle.std.specs.Prelude.{ℕ, Err, Ok}
use Rattle.refusal.specs.Numbers.{number_of, Outcome}
use Rattle.call_read.specs.declared.Shown.{Shown}

-- ---- "A refused call returns the number and zeros"
abbrev pub read_values : Outcome Shown → Shown
read_values (Ok shown) = shown
read_values (Err refusal) =
    record {
      time = record { 0 = 0; 1 = 0 };
      status = 0;
      user = record { 0 = 0; 1 = 0; 2 = 0 };
      updates = 0;
    }
