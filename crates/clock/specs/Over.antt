-- What comes over the second of two numbers of nanoseconds: in paper 01, "A master's domain", of a SYNC's nanoseconds and
-- the reading's advance. Assumes nothing.
use Rattle.std.specs.Prelude.{ℕ, ◌+◌, ◌/◌, ◌%◌}
use Rattle.clock.specs.declared.over.Over.{Over}

-- ---- "the whole seconds beyond those sent, and the nanoseconds"
abbrev pub over_of : (nanoseconds span : ℕ) → Over
over_of nanoseconds span =
    record {
      seconds = (nanoseconds + span) / 1000000000;
      nanoseconds = (nanoseconds + span) % 1000000000;
    }
