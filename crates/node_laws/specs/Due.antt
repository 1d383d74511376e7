-- Paper 01, "The result gives the number of frames": "SYNC count per cycle, bounded by S and equal to the
-- count in the due definition". Assumes nothing.
use Rattle.std.specs.Prelude.{ℕ, zero, suc, ◌+◌, Bool, cond, List}
use Rattle.clock.specs.declared.reading.VirtualLocalTime.{VirtualLocalTime}
use Rattle.domain.specs.declared.Domain.{Domain}
use Rattle.master_send.specs.Send.{is_due}
use Rattle.settings.specs.Node.{places}
use Rattle.domain.specs.Records.{record_at}

-- ---- of how many of the places 0 to `below` - 1 a test holds
abbrev pub count_below : (test : ℕ → Bool) → (below : ℕ) → ℕ
count_below test zero = 0
count_below test (suc i) = count_below test i + cond (test i) 1 0

-- ---- how many of all domains are due at t
abbrev pub due_count : List Domain → VirtualLocalTime → ℕ
due_count ds t = count_below (λ (i : ℕ). is_due (record_at ds i) t) places
