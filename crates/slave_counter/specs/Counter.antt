-- Paper 01, "A slave's domain": the counter of a SYNC. Assumes nothing.
use Rattle.std.specs.Prelude.{ℕ, ◌+◌, ◌-◌, ◌%◌, cond, ◌&&◌, leb, ltb}
use Rattle.clock.specs.declared.reading.VirtualLocalTime.{VirtualLocalTime}
use Rattle.clock.specs.Reading.{span_of}
use Rattle.frame.specs.ByteTwo.{counters}
use Rattle.domain.specs.declared.LastSync.{LastSync}
use Rattle.domain.specs.declared.LastSync.TheVariants.{Unknown, Seen}
use Rattle.slave_counter.specs.declared.CounterVerdict.{CounterVerdict}
use Rattle.slave_counter.specs.declared.CounterVerdict.TheVariants.{Free, Good, NotGood}

-- ---- "(new minus last) modulo 16"
abbrev pub jump_of : (last new : ℕ) → ℕ
jump_of last new = (new % counters + counters - last % counters) % counters

-- ---- "if no counter is known, or more than L has passed since the SYNC last accepted, any counter is
-- good. Otherwise (new minus last) modulo 16 must be 1 to J."
abbrev pub verdict_of : (j l : ℕ) → LastSync → ℕ → VirtualLocalTime → CounterVerdict
verdict_of j l Unknown new t = Free
verdict_of j l (Seen last row at) new t =
    cond (ltb l (span_of at t)) Free
    (cond (leb 1 (jump_of last new) && leb (jump_of last new) j) Good NotGood)
