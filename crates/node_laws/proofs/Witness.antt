-- The hypotheses of the laws of reachable nodes can be met: the bench's node after its seven calls is
-- reachable, its slave holds a received time, and its master has sent and confirmed; another master's FUP has
-- the greatest OVS. No contract cites this file.
--   is_call        a call that passes the test has arguments as their types say
--   are_calls      and so have calls one after another
--   reaches        calls one after another lead from a reachable node to a reachable one
--   bench_reached  the node after the seven calls of P1 to P7 is reachable
--   bench_slave    its domain 1 is a slave
--   bench_held     that holds the time of its pair, at its SYNC's reading
--   slow_reached   a master with C 3 s has sent a SYNC of 999,999,999 ns
--   ovs_three      whose FUP, confirmed 3 s later, has OVS 3
-- Assumes nothing.
use Rattle.std.specs.Prelude.{Ok, Some}
use Prim.Native.Nat.{ℕ}
use mathlib.Core.Path.{◌≡◌, refl}
use mathlib.Core.Bool.{Bool, true, false, ◌&&◌}
use mathlib.Core.List.{List, [], ◌∷◌}
use lib.Dec.{ltb}
use lib.ListN.{replicate}
use borrow.Author.Tests.{ltb-true}
use Rattle.promise.proofs.Tests.{both}
use Rattle.frame.specs.declared.values.Protection.TheVariants.{Plain as plain}
use Rattle.settings.specs.declared.domain_settings.Role.TheVariants.{Slave}
use Rattle.settings.specs.declared.domain_settings.Security.TheVariants.{Plain}
use Rattle.settings.specs.declared.node_settings.NodeSettings.{NodeSettings}
use Rattle.settings.specs.Domain.{absent_held, as_master}
use Rattle.domain.specs.Records.{record_at}
use Rattle.round.specs.Round.{goes}
use Rattle.node.specs.declared.Node.{Node}
use Rattle.node.specs.New.{new_of}
use Rattle.node.specs.Confirm.{node_confirm_of}
use Rattle.node_call.specs.Calls.{Call, frame, read, set, cycle, confirm, node_after, node_after_all}
use Rattle.frame_laws.specs.RoundTrip.{AreBytes}
use Rattle.node_laws.specs.Reachable.{IsCall, AreCalls, Reachable, new, after}
use Rattle.bench_settings.specs.Bench.{bench_with}
use Rattle.node_laws.specs.Cases.{bench_calls}

pub reaches : (n : Node) → Reachable n → (cs : List Call) → AreCalls cs → Reachable (node_after_all n cs)
reaches n r [] is = r
reaches n r (c ∷ rest) is = reaches (node_after n c) (after n r c is.0) rest is.1

abbrev below : List ℕ → Bool
below [] = true
below (byte ∷ rest) = ltb byte 256 && below rest

are_bytes : (l : List ℕ) → below l ≡ true → AreBytes l
are_bytes [] e = tt
are_bytes (byte ∷ rest) e =
    let told = both (ltb byte 256) (below rest) e in (ltb-true _ _ told.0, are_bytes rest told.1)

abbrev pub is_call : Call → Bool
is_call (frame t bytes) = below bytes
is_call (read domain t) = true
is_call (set domain t seconds nanoseconds) = ltb seconds 4294967296
is_call (cycle t out) = true
is_call (confirm domain t counter out) = true

abbrev pub are_calls : List Call → Bool
are_calls [] = true
are_calls (c ∷ rest) = is_call c && are_calls rest

pub is_call_lem : (c : Call) → is_call c ≡ true → IsCall c
is_call_lem (frame t bytes) e = are_bytes bytes e
is_call_lem (read domain t) e = tt
is_call_lem (set domain t seconds nanoseconds) e = ltb-true _ _ e
is_call_lem (cycle t out) e = tt
is_call_lem (confirm domain t counter out) e = tt

pub are_calls_lem : (cs : List Call) → are_calls cs ≡ true → AreCalls cs
are_calls_lem [] e = tt
are_calls_lem (c ∷ rest) e =
    let told = both (is_call c) (are_calls rest) e in (is_call_lem c told.0, are_calls_lem rest told.1)

abbrev bench : Node
bench = node_after_all (new_of (bench_with 2)).node bench_calls

pub bench_reached : Reachable bench
bench_reached = reaches _ (new (bench_with 2) refl) bench_calls (are_calls_lem bench_calls refl)

pub bench_slave : (record_at bench.domains 1).settings.role ≡ Slave
unfolding goes
bench_slave = refl

pub bench_held :
    (record_at bench.domains 1).base
    ≡ Some (record { time = record { 0 = 3600; 1 = 100 }; at = record { 0 = 5000000000 } })
unfolding goes
bench_held = refl

-- ---- OVS is at most 3, and reaches it: domain 0 a master with P 3.1 s and C 3 s, which sends at 0

abbrev slow_settings : NodeSettings
slow_settings =
    record {
      syncs_per_cycle = 1;
      domains =
          as_master 3100000000 3000000000 Plain (record { 0 = 0; 1 = 0; 2 = 0 }) absent_held.ids
          ∷ replicate 15 absent_held;
    }

abbrev slow_calls : List Call
slow_calls = set 0 (record { 0 = 0 }) 7 999999999 ∷ cycle (record { 0 = 0 }) (replicate 8 0) ∷ []

abbrev slow : Node
slow = node_after_all (new_of slow_settings).node slow_calls

pub slow_reached : Reachable slow
slow_reached = reaches _ (new slow_settings refl) slow_calls (are_calls_lem slow_calls refl)

pub ovs_three :
    (node_confirm_of slow 0 (record { 0 = 3000000000 }) 0 8).answer
    ≡ Ok
    (record { domain = 0; counter = 0; sgw = false; ovs = 3; nanoseconds = 999999999; protection = plain 0 })
unfolding goes
ovs_three = refl
