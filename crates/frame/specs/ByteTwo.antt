-- Paper 01, "Frames": byte 2. Assumes nothing.
use Rattle.std.specs.Prelude.{ℕ, ◌+◌, ◌*◌, ◌/◌, ◌%◌}

-- ---- the number of counters: "0 first, 15 then 0"
abbrev pub counters : ℕ
counters = 16

-- ---- "domain in bits 7-4, counter in bits 3-0"
abbrev pub domain_of : ℕ → ℕ
domain_of two = two / 16

abbrev pub counter_of : ℕ → ℕ
counter_of two = two % 16

abbrev pub byte_two_of : ℕ → ℕ → ℕ
byte_two_of domain counter = domain % 16 * 16 + counter % 16
