-- Paper 01, "A master's domain": the FUP of an open SYNC, or 11, 12. Assumes nothing.
use Rattle.std.specs.Prelude.{ℕ, ◌-◌, Bool, cond, ◌&&◌, leb, eqb, Err, Ok}
use Rattle.clock.specs.declared.reading.VirtualLocalTime.{VirtualLocalTime}
use Rattle.clock.specs.declared.time.GlobalTime.{GlobalTime}
use Rattle.clock.specs.Reading.{span_of}
use Rattle.clock.specs.Base.{base_of, time_at}
use Rattle.refusal.specs.declared.Refusal.TheVariants.{NoOpenSync, NoRoom}
use Rattle.domain.specs.declared.Sending.{Sending}
use Rattle.domain.specs.declared.Sending.TheVariants.{Never, Open, Confirmed}
use Rattle.refusal.specs.Numbers.{Outcome}
use Rattle.master_follow.specs.declared.Follow.{Follow}

-- ---- "the open SYNC must have that counter and be at most C old": 11
abbrev pub is_open_for : (c sent : ℕ) → VirtualLocalTime → VirtualLocalTime → ℕ → Bool
is_open_for c sent at t counter = eqb sent counter && leb (span_of at t) c

-- ---- "The whole time is the SYNC's time plus the reading's advance." "as OVS the whole seconds beyond
-- those sent, and the nanoseconds"
abbrev pub whole_of : GlobalTime → VirtualLocalTime → VirtualLocalTime → GlobalTime
whole_of g at t = time_at (base_of g at) t

abbrev pub ovs_of : GlobalTime → VirtualLocalTime → VirtualLocalTime → ℕ
ovs_of g at t = (whole_of g at t).0 - g.0

abbrev pub follow_from : GlobalTime → VirtualLocalTime → VirtualLocalTime → Outcome Follow
follow_from g at t = Ok (record { ovs = ovs_of g at t; nanoseconds = (whole_of g at t).1; sent_at = at })

-- ---- "in the order of the numbers": 11, 12 "output buffer under 8 bytes"; `room` says that it has 8
abbrev pub follow_of : (c : ℕ) → Sending → VirtualLocalTime → (counter : ℕ) → (room : Bool) → Outcome Follow
follow_of c Never t counter room = Err NoOpenSync
follow_of c (Open sent seconds nanoseconds at) t counter room =
    cond (is_open_for c sent at t counter)
    (cond room (follow_from (record { 0 = seconds; 1 = nanoseconds }) at t) (Err NoRoom))
    (Err NoOpenSync)
follow_of c (Confirmed at) t counter room = Err NoOpenSync
