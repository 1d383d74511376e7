-- What holds of every node that is reachable: one record for a domain in each role, one for the node. A
-- later request adds a field. Assumes nothing.
use Rattle.std.specs.Prelude.{ℕ, ◌+◌, ◌%◌, ◌^◌, ◌≤◌, ◌<◌, ◌≡◌, true, false, ◌⊎◌, length, None, Option, Some}
use Rattle.clock.specs.declared.reading.VirtualLocalTime.{VirtualLocalTime}
use Rattle.clock.specs.Reading.{span_of}
use Rattle.clock.specs.Time.{most_nanoseconds, most_set, most_received}
use Rattle.frame.specs.ByteTwo.{counters}
use Rattle.settings.specs.declared.domain_settings.Role.{Role}
use Rattle.settings.specs.declared.domain_settings.Role.TheVariants.{Absent, Slave, Master}
use Rattle.settings.specs.Ranges.{is_good}
use Rattle.settings.specs.Domain.{held_of, absent_held}
use Rattle.settings.specs.Node.{places}
use Rattle.domain.specs.declared.Domain.{Domain}
use Rattle.domain.specs.declared.Pair.{Pair}
use Rattle.domain.specs.declared.LastSync.{LastSync}
use Rattle.domain.specs.declared.LastSync.TheVariants.{Unknown, Seen}
use Rattle.domain.specs.declared.Sending.{Sending}
use Rattle.domain.specs.declared.Sending.TheVariants.{Never, Open as open_sync, Confirmed}
use Rattle.domain.specs.Fresh.{fresh_of}
use Rattle.domain.specs.Records.{record_at}
use Rattle.node.specs.declared.Node.{Node}
use Rattle.node_laws.specs.Reachable.{are_ids}
use Rattle.clock.specs.declared.base.TimeBase.{TimeBase}
use Rattle.domain.specs.declared.Leap.{Leap}
use Rattle.domain.specs.declared.Leap.TheVariants.{Future, Past}

-- ---- a held time: seconds at most so many, nanoseconds in range, its reading at most the kept one
abbrev pub HeldWithin : (most : ℕ) (kept : VirtualLocalTime) → Option TimeBase → Type 0
HeldWithin most kept None = Unit {0}
HeldWithin most kept (Some b) = (b.time.0 ≤ most) × (b.time.1 ≤ most_nanoseconds) × (b.at.0 ≤ kept.0)

-- ---- the SYNC last accepted, with a row of at most H
abbrev pub LastWithin : (kept : VirtualLocalTime) (h : ℕ) → LastSync → Type 0
LastWithin kept h Unknown = Unit {0}
LastWithin kept h (Seen counter row at) = (counter < counters) × (row ≤ h) × (at.0 ≤ kept.0)

-- ---- the open pair: that SYNC's, whose row is complete; or one that 15 left open, older than F by now
abbrev pub OfLast : (h : ℕ) → LastSync → Pair → Type 0
OfLast h Unknown p = ⊥
OfLast h (Seen counter row at) p = (counter ≡ p.counter) × (at ≡ p.at) × (h ≤ row)

abbrev pub PairWithin : (kept : VirtualLocalTime) (f h : ℕ) → LastSync → Option Pair → Type 0
PairWithin kept f h last None = Unit {0}
PairWithin kept f h last (Some p) = (p.seconds < 2 ^ 32) × (OfLast h last p ⊎ (f < span_of p.at kept))

-- ---- a slave's base is of a SYNC that was accepted, the last one or one before
abbrev pub BaseBefore : LastSync → Option TimeBase → Type 0
BaseBefore last None = Unit {0}
BaseBefore Unknown (Some b) = ⊥
BaseBefore (Seen counter row at) (Some b) = b.at.0 ≤ at.0

-- ---- and of one before that of the open pair
abbrev pub BaseFirst : Option Pair → Option TimeBase → Type 0
BaseFirst None base = Unit {0}
BaseFirst (Some p) None = Unit {0}
BaseFirst (Some p) (Some b) = b.at.0 ≤ p.at.0

-- ---- an unset base shows nothing
abbrev pub Blank : Option TimeBase → Domain → Type 0
Blank (Some b) d = Unit {0}
Blank None d = (d.updates ≡ 0) × (d.user ≡ record { 0 = 0; 1 = 0; 2 = 0 }) × (d.sgw ≡ false) × (d.leap ≡ None)

-- ---- the run of a leap that shows is below the count that clears it
abbrev pub RunBelow : (count : ℕ) → Option Leap → Type 0
RunBelow count None = Unit {0}
RunBelow count (Some (Future run)) = run < count
RunBelow count (Some (Past run)) = run < count

-- ---- what was sent last: from a base that is set, with the counter before the next one
abbrev pub BaseSet : Option TimeBase → Type 0
BaseSet None = ⊥
BaseSet (Some b) = Unit {0}

-- ---- a base once set stays set
abbrev pub BaseStays : (before after : Domain) → Type 0
BaseStays before after = BaseSet before.base → BaseSet after.base

abbrev pub SentWithin : (kept : VirtualLocalTime) → Option TimeBase → (next : ℕ) → Sending → Type 0
SentWithin kept base next Never = next ≡ 0
SentWithin kept base next (open_sync counter seconds nanoseconds at) =
    BaseSet base × (counter < counters) × (next ≡ (counter + 1) % counters) × (seconds < 2 ^ 32)
    × (nanoseconds ≤ most_nanoseconds) × (at.0 ≤ kept.0)
SentWithin kept base next (Confirmed at) = BaseSet base × (next < counters) × (at.0 ≤ kept.0)

-- ---- a record in each role; what the other role adds is fresh
pub record SlaveGood (kept : VirtualLocalTime) (d : Domain) : Type 0 where
  pub base : HeldWithin most_received kept d.base
  pub last : LastWithin kept d.settings.hysteresis d.last
  pub pair : PairWithin kept d.settings.follow_up_time d.settings.hysteresis d.last d.pairing
  pub order : BaseBefore d.last d.base
  pub first : BaseFirst d.pairing d.base
  pub blank : Blank d.base d
  pub run : RunBelow d.settings.clear_count d.leap
  pub never : d.sending ≡ Never
  pub next : d.next_counter ≡ 0

pub record MasterGood (kept : VirtualLocalTime) (d : Domain) : Type 0 where
  pub base : HeldWithin most_set kept d.base
  pub sent : SentWithin kept d.base d.next_counter d.sending
  pub blank : Blank d.base d
  pub waiting : d.pairing ≡ None
  pub unknown : d.last ≡ Unknown
  pub stored : (d.user ≡ record { 0 = 0; 1 = 0; 2 = 0 }) × (d.sgw ≡ false) × (d.leap ≡ None)

abbrev pub RoleGood : Role → (kept : VirtualLocalTime) → Domain → Type 0
RoleGood Absent kept d = d ≡ fresh_of d.number absent_held
RoleGood Slave kept d = SlaveGood kept d
RoleGood Master kept d = MasterGood kept d

pub record RecordGood (i : ℕ) (kept : VirtualLocalTime) (d : Domain) : Type 0 where
  pub number : d.number ≡ i
  pub settings : is_good d.settings ≡ true
  pub settings_held : held_of d.settings ≡ d.settings
  pub ids : are_ids d.settings.ids ≡ true
  pub updates : d.updates < 256
  pub role : RoleGood d.settings.role kept d

pub record Good (n : Node) : Type 0 where
  pub sixteen : length n.domains ≡ places
  pub kept : n.kept.0 ≤ 1000000000000000000
  pub syncs : (1 ≤ n.syncs_per_cycle) × (n.syncs_per_cycle ≤ 16)
  pub round : n.round < places
  pub records : (i : ℕ) → i < places → RecordGood i n.kept (record_at n.domains i)
