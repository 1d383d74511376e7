-- Paper 01, "Two clocks": global times, and their sum with a span. Assumes nothing.
use Rattle.std.specs.Prelude.{ℕ, ◌+◌, ◌-◌, ◌*◌, ◌/◌, ◌%◌, ◌^◌, ◌≤◌, min, Bool, ◌&&◌, leb}
use Rattle.clock.specs.declared.time.GlobalTime.{GlobalTime}

-- ---- "Global time: seconds and nanoseconds, nanoseconds 0 to 999,999,999."
abbrev pub most_nanoseconds : ℕ
most_nanoseconds = 999999999

abbrev pub is_nanoseconds : ℕ → Bool
is_nanoseconds n = leb n most_nanoseconds

abbrev pub is_time : GlobalTime → Bool
is_time g = is_nanoseconds g.1

-- a time by its parts
abbrev pub time_of : (seconds nanoseconds : ℕ) → GlobalTime
time_of s n = record { 0 = s; 1 = n }

-- all of a time in nanoseconds
abbrev pub nanoseconds_of : GlobalTime → ℕ
nanoseconds_of g = g.0 * 1000000000 + g.1

-- ---- "A time that is set by the user has seconds 0 to 4,294,967,295 (32 bits). A received time is at
-- most 4,294,967,298 seconds, and a read time at most 5,294,967,298 seconds plus the nanoseconds."
abbrev pub most_set : ℕ
most_set = 4294967295

abbrev pub most_received : ℕ
most_received = 4294967298

abbrev pub most_read : ℕ
most_read = 5294967298

abbrev pub is_within : (seconds : ℕ) → GlobalTime → Bool
is_within seconds g = leb g.0 seconds && is_time g

pub record Within (seconds : ℕ) (g : GlobalTime) : Type 0 where
  pub whole : g.0 ≤ seconds
  pub part : g.1 ≤ most_nanoseconds

abbrev pub IsSet : GlobalTime → Type 0
IsSet = Within most_set

abbrev pub IsReceived : GlobalTime → Type 0
IsReceived = Within most_received

abbrev pub IsRead : GlobalTime → Type 0
IsRead = Within most_read

-- ---- The carry of n nanoseconds into seconds of w bits, held at the last of the width.
abbrev pub carried : (w s n : ℕ) → ℕ
carried w s n = min (s + n / 1000000000) (2 ^ w - 1)

-- ---- "that global time plus t minus that reading, exactly": the time a span later.
abbrev pub advanced : GlobalTime → ℕ → GlobalTime
advanced g span =
    record {
      0 = carried 64 g.0 (g.1 + span);
      1 = (g.1 + span) % 1000000000;
    }
