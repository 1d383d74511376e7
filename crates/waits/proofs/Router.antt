-- The hypotheses of `EachSends` can be met: the router of the request, master of sixteen domains with S 3, all of them
-- set. No contract cites this file.
--   router_reached   its node is reachable
--   sixteen_bound    masters / S, rounded up, is 6
--   five_waited      domain 15 is due at each of five main cycles and has not sent
--   sixteen_wait     it is due at each of six, and has
--   router_sends     so the theorem says
-- Assumes nothing.
use Prim.Native.Nat.{ℕ, zero, suc, ◌+◌}
use mathlib.Core.Path.{◌≡◌, refl}
use mathlib.Core.Bool.{Bool, true, false}
use mathlib.Core.List.{List, [], ◌∷◌}
use native.Mathlib.Omega.{arith}
use lib.ListN.{replicate}
use Rattle.clock.specs.declared.reading.VirtualLocalTime.{VirtualLocalTime}
use Rattle.settings.specs.declared.domain_settings.DomainSettings.{DomainSettings}
use Rattle.settings.specs.declared.domain_settings.Security.TheVariants.{Plain}
use Rattle.settings.specs.declared.node_settings.NodeSettings.{NodeSettings}
use Rattle.settings.specs.Domain.{absent_held, as_master}
use Rattle.settings.specs.Node.{places}
use Rattle.round.specs.Round.{goes}
use Rattle.node.specs.declared.Node.{Node}
use Rattle.node.specs.New.{new_of}
use Rattle.node_call.specs.Calls.{Call, set, cycle, node_after_all}
use Rattle.node_laws.specs.Reachable.{AreCalls, Reachable, new}
use Rattle.node_laws.proofs.Witness.{are_calls_lem, reaches}
use Rattle.waits.specs.Waits.{completed, has_sent, masters, rounded_up, DueUntilSent}
use Rattle.waits.proofs.Waits.{each_sends}

abbrev pub reading : ℕ → VirtualLocalTime
reading t = record { 0 = t }

-- ---- a master with P 1 ms and C 1 ns
abbrev pub plain_master : DomainSettings
plain_master = as_master 1000000 1 Plain (record { 0 = 0; 1 = 0; 2 = 0 }) absent_held.ids

-- ---- so many domains from one on are set to 5 s; a main cycle; all at reading 0
abbrev pub sets_from : (count domain : ℕ) → List Call
sets_from zero domain = []
sets_from (suc count) domain = set domain (reading 0) 5 0 ∷ sets_from count (domain + 1)

abbrev pub cycle_of : (room : ℕ) → Call
cycle_of room = cycle (reading 0) (replicate room 0)

-- ---- the router

abbrev routing : NodeSettings
routing = record { syncs_per_cycle = 3; domains = replicate places plain_master }

abbrev pub router : Node
router = node_after_all (new_of routing).node (sets_from places 0)

pub router_reached : Reachable router
router_reached = reaches _ (new routing refl) (sets_from places 0) (are_calls_lem (sets_from places 0) refl)

pub sixteen_bound : rounded_up (masters router) router.syncs_per_cycle ≡ 6
sixteen_bound = refl

-- ---- what becomes of a domain among calls: it is due until it sends, in so many completed main cycles, and sends or not
pub record Waited (n : Node) (cs : List Call) (i count : ℕ) (sent : Bool) : Type 0 where
  pub are : AreCalls cs
  pub due : DueUntilSent n cs i
  pub cycles : completed n cs ≡ count
  pub has : has_sent n cs i ≡ sent

abbrev pub cycles : ℕ → List Call
cycles count = replicate count (cycle_of 24)

pub five_waited : Waited router (cycles 5) 15 5 false
unfolding goes
five_waited =
    record {
      are = are_calls_lem (cycles 5) refl;
      due = (λ e. refl, λ e. (λ e. refl, λ e. (λ e. refl, λ e. (λ e. refl, λ e. (λ e. refl, λ e. tt)))));
      cycles = refl;
      has = refl;
    }

pub sixteen_wait : Waited router (cycles 6) 15 6 true
unfolding goes
sixteen_wait =
    record {
      are = are_calls_lem (cycles 6) refl;
      due = (λ e. refl, λ e. (λ e. refl, λ e. (λ e. refl, λ e. (λ e. refl, λ e. (λ e. refl, λ e. (λ e. refl, λ e. tt))))));
      cycles = refl;
      has = refl;
    }

pub router_sends : has_sent router (cycles 6) 15 ≡ true
router_sends =
    each_sends router router_reached 15 (omega arith) refl (cycles 6) sixteen_wait.are sixteen_wait.due
    (omega (arith, sixteen_bound, sixteen_wait.cycles))
