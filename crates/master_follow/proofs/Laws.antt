-- Laws of a FUP's time. No contract cites this file.
--   whole_exact    the whole time is the SYNC's time and the reading's advance, to the nanosecond
--   ovs_bound      OVS is at most 3 where C is in range and the SYNC's time is good
--   over_exact     what comes over of numbers of 32 bits is OVS and the nanoseconds of the whole time
--   by_follow      what a confirmation finds: 11, 12 or a FUP; `OpenFor` is told of the SYNC where it is open
-- Assumes nothing.
use Rattle.std.specs.Prelude.{Err, Ok}
use Prim.Native.Nat.{ℕ, ◌+◌, ◌^◌, ◌≤◌, ◌<◌}
use mathlib.Core.Path.{◌≡◌, ap, ap₂}
use mathlib.Core.Bool.{Bool, true}
use native.Mathlib.Omega.{arith}
use lib.Dec.{leb, eqb}
use borrow.Author.Tests.{leb-true, eqb-true}
use Rattle.promise.proofs.Tests.{either_told, both}
use Rattle.clock.specs.declared.reading.VirtualLocalTime.{VirtualLocalTime}
use Rattle.clock.specs.declared.time.GlobalTime.{GlobalTime}
use Rattle.clock.specs.Reading.{span_of}
use Rattle.clock.specs.Time.{nanoseconds_of, IsSet}
use Rattle.clock.proofs.Laws.{carry_exact, advance_exact}
use Rattle.refusal.specs.declared.Refusal.TheVariants.{NoOpenSync, NoRoom}
use Rattle.domain.specs.declared.Sending.{Sending}
use Rattle.domain.specs.declared.Sending.TheVariants.{Never, Open, Confirmed}
use Rattle.clock.specs.declared.over.Over.{Over}
use Rattle.clock.specs.Over.{over_of}
use Rattle.master_follow.specs.Follow.{is_open_for, whole_of, ovs_of, follow_of}
use Rattle.refusal.specs.Numbers.{Outcome}
use Rattle.master_follow.specs.declared.Follow.{Follow}

module _ (g : GlobalTime) (at t : VirtualLocalTime) (good : IsSet g) (fresh : span_of at t ≤ 3000000000) where
  pub whole_exact : nanoseconds_of (whole_of g at t) ≡ nanoseconds_of g + span_of at t
  whole_exact = advance_exact g (span_of at t) (omega arith)

  pub ovs_bound : ovs_of g at t ≤ 3
  ovs_bound = omega arith

-- ---- by what comes over alone: the cap at 64 bits is out of reach of seconds of 32

abbrev pub over : ℕ → ℕ → Over
over s n = record { seconds = s; nanoseconds = n }

module _ (g : GlobalTime) (at t : VirtualLocalTime)
    (seconds : g.0 < 2 ^ 32) (nanoseconds : g.1 < 2 ^ 32) (span : span_of at t < 2 ^ 32) where
  pub over_exact : over_of g.1 (span_of at t) ≡ over (ovs_of g at t) (whole_of g at t).1
  over_exact = ap₂ over (omega (arith, carry_exact 64 g.0 (g.1 + span_of at t) (omega arith))) (omega arith)

-- ---- the cases of a confirmation; g is the time of the open SYNC, and `at` its reading

pub record OpenFor
    (c : ℕ) (s : Sending) (t : VirtualLocalTime) (counter : ℕ) (g : GlobalTime) (at : VirtualLocalTime) : Type 0 where
  pub held : s ≡ Open counter g.0 g.1 at
  pub soon : span_of at t ≤ c

pub by_follow :
    (P : Outcome Follow → Type 0) (c : ℕ) (s : Sending) (t : VirtualLocalTime) (counter : ℕ) (room : Bool) →
    P (Err NoOpenSync) → P (Err NoRoom) →
    ((g : GlobalTime) (at : VirtualLocalTime) → OpenFor c s t counter g at → room ≡ true →
    P (Ok (record { ovs = ovs_of g at t; nanoseconds = (whole_of g at t).1; sent_at = at }))) →
    P (follow_of c s t counter room)
by_follow P c Never t counter room no_sync no_room with = no_sync
by_follow P c (Open sent seconds nanoseconds at) t counter room no_sync no_room with =
    let g : GlobalTime = record { 0 = seconds; 1 = nanoseconds } in
    either_told P (is_open_for c sent at t counter)
    (λ found.
    let tests = both (eqb sent counter) (leb (span_of at t) c) found in
    let told : OpenFor c (Open sent seconds nanoseconds at) t counter g at =
    record {
      held = ap (λ (n : ℕ). Open n seconds nanoseconds at) (eqb-true sent counter tests.0);
      soon = leb-true _ _ tests.1;
    }
    in
    either_told P room (λ has_room. with g at told has_room) (λ none. no_room))
    (λ closed. no_sync)
by_follow P c (Confirmed at) t counter room no_sync no_room with = no_sync
