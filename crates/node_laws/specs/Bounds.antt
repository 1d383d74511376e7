-- Paper 01: what the ranges of the settings and of the arguments leave of the times and numbers of a node. Assumes
-- nothing.
use Rattle.std.specs.Prelude.{ℕ, ◌+◌, ◌≤◌, ◌≡◌, Ok, Some}
use Rattle.clock.specs.declared.reading.VirtualLocalTime.{VirtualLocalTime}
use Rattle.clock.specs.declared.time.GlobalTime.{GlobalTime}
use Rattle.clock.specs.declared.base.TimeBase.{TimeBase}
use Rattle.clock.specs.Time.{most_nanoseconds, nanoseconds_of, most_received, most_read, Within}
use Rattle.frame.specs.declared.values.Fup.{Fup}
use Rattle.settings.specs.declared.domain_settings.Role.TheVariants.{Slave}
use Rattle.domain.specs.declared.Domain.{Domain}
use Rattle.domain.specs.declared.Sending.{Sending}
use Rattle.domain.specs.declared.Sending.TheVariants.{Open}
use Rattle.call_read.specs.declared.Shown.{Shown}
use Rattle.refusal.specs.Numbers.{Outcome}

-- ---- "A received time is at most 4,294,967,298 seconds, and a read time at most 5,294,967,298 seconds plus the
-- nanoseconds": what a slave holds, and what a read shows.
abbrev pub HoldsReceived : Domain → Type 0
HoldsReceived d = d.settings.role ≡ Slave → (b : TimeBase) → d.base ≡ Some b → Within most_received b.time

abbrev pub ShowsRead : Outcome Shown → Type 0
ShowsRead answer = (shown : Shown) → answer ≡ Ok shown → Within most_read shown.time

-- ---- "bits 1-0 OVS": a FUP's OVS has two bits.
abbrev pub OvsMost : Outcome Fup → Type 0
OvsMost answer = (f : Fup) → answer ≡ Ok f → f.ovs ≤ 3

-- ---- "that global time plus t minus that reading, exactly": g is `from`, true at `at`, carried on to t
abbrev pub TimeExact : (from : GlobalTime) (at : VirtualLocalTime) (g : GlobalTime) (t : VirtualLocalTime) → Type 0
TimeExact from at g t = nanoseconds_of g + at.0 ≡ nanoseconds_of from + t.0

-- ---- "The whole time is the SYNC's time plus the reading's advance": the seconds sent and OVS, and the nanoseconds,
-- which are no whole second
pub record Follows (sending : Sending) (counter : ℕ) (t : VirtualLocalTime) (f : Fup) : Type 0 where
  pub time : GlobalTime
  pub at : VirtualLocalTime
  pub is : sending ≡ Open counter time.0 time.1 at
  pub exact : TimeExact time at (record { 0 = time.0 + f.ovs; 1 = f.nanoseconds }) t
  pub part : f.nanoseconds ≤ most_nanoseconds
