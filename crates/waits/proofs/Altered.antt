-- The statement of `waits` as an edit has it is false, by a computed node and calls, and so is one main cycle fewer. No
-- contract cites this file.
--   unaltered               the form below holds as `EachSends` has it
--   five_are_few            one main cycle fewer
--   rounded_down_false      edit `rounded_down`
--   fifteen_counted_false   edit `domain_15_no_master`
--   due_masters_false       edit `masters_that_are_due`
--   refused_cycles_false    edit `refused_cycles_count`
--   due_at_first_false      edit `due_at_first_only`
-- Assumes nothing.
use Prim.Native.Nat.{ℕ, ◌+◌, ◌-◌, ◌/◌, ◌≤◌, ◌<◌}
use mathlib.Core.Path.{◌≡◌, refl, sym, ◌∙◌}
use mathlib.Core.Bool.{Bool, true, false, cond, true≢false}
use mathlib.Core.List.{List, [], ◌∷◌}
use native.Mathlib.Omega.{arith}
use lib.ListN.{replicate}
use Rattle.settings.specs.declared.node_settings.NodeSettings.{NodeSettings}
use Rattle.settings.specs.Domain.{absent_held}
use Rattle.settings.specs.Node.{places}
use Rattle.domain.specs.Records.{record_at}
use Rattle.master_send.specs.Send.{is_due}
use Rattle.round.specs.Round.{goes}
use Rattle.node.specs.declared.Node.{Node}
use Rattle.node.specs.New.{new_of}
use Rattle.node_call.specs.Calls.{Call, frame, read, set, cycle, confirm, reading_of, node_after, node_after_all}
use Rattle.node_laws.specs.Reachable.{AreCalls, Reachable, new}
use Rattle.node_laws.specs.Apart.{is_master_at}
use Rattle.node_laws.specs.Due.{count_below}
use Rattle.node_laws.proofs.Witness.{are_calls_lem, reaches}
use Rattle.waits.specs.Waits.{
  is_completed,
  completed,
  does_send,
  has_sent,
  masters,
  rounded_up,
  DueUntilSent,
}
use Rattle.waits.proofs.Waits.{each_sends}
use Rattle.waits.proofs.Router.{
  reading,
  plain_master,
  sets_from,
  cycle_of,
  router,
  router_reached,
  cycles,
  five_waited,
}

-- ---- the statement, with a place for what is altered
abbrev Altered :
    (masters : Node → ℕ) (bound : (m s : ℕ) → ℕ) (Due : Node → List Call → ℕ → Type 0)
    (completed : Node → List Call → ℕ) → Type 0
Altered masters bound Due completed =
    (n : Node) → Reachable n → (i : ℕ) → i < places → is_master_at n i ≡ true →
    (cs : List Call) → AreCalls cs → Due n cs i →
    bound (masters n) n.syncs_per_cycle ≤ completed n cs → has_sent n cs i ≡ true

unaltered : Altered masters rounded_up DueUntilSent completed
unaltered = each_sends

-- ---- five main cycles for the router's sixteen masters and S 3

five_refute :
    (count : Node → ℕ) (bound : (m s : ℕ) → ℕ) → bound (count router) 3 ≤ 5 →
    Altered count bound DueUntilSent completed → ⊥
five_refute count bound fits says =
    true≢false
    (sym (says router router_reached 15 (omega arith) refl (cycles 5) five_waited.are five_waited.due
    (rw five_waited.cycles fits))
    ∙ five_waited.has)

pub five_are_few : Altered masters (λ m s. rounded_up m s - 1) DueUntilSent completed → ⊥
five_are_few = five_refute masters (λ m s. rounded_up m s - 1) (omega arith)

pub rounded_down_false : Altered masters (λ m s. m / s) DueUntilSent completed → ⊥
rounded_down_false = five_refute masters (λ m s. m / s) (omega arith)

pub fifteen_counted_false : Altered (λ n. count_below (is_master_at n) 15) rounded_up DueUntilSent completed → ⊥
fifteen_counted_false = five_refute (λ n. count_below (is_master_at n) 15) rounded_up (omega arith)

-- ---- S 1, and masters in domains 0 and 1, of which some have been set

abbrev two_masters : NodeSettings
two_masters = record { syncs_per_cycle = 1; domains = plain_master ∷ plain_master ∷ replicate 14 absent_held }

abbrev after : List Call → Node
after sets = node_after_all (new_of two_masters).node sets

reached : (sets : List Call) → AreCalls sets → Reachable (after sets)
reached sets = reaches _ (new two_masters refl) sets

-- masters that are due at the start: 1 is, then 0 is set too, and sends
abbrev masters_due : Node → ℕ
masters_due n = count_below (λ (i : ℕ). is_due (record_at n.domains i) n.kept) places

abbrev late_set : List Call
late_set = set 0 (reading 0) 5 0 ∷ cycle_of 8 ∷ []

pub due_masters_false : Altered masters_due rounded_up DueUntilSent completed → ⊥
unfolding goes
due_masters_false says =
    true≢false
    (sym (says (after (sets_from 1 1)) (reached (sets_from 1 1) (are_calls_lem (sets_from 1 1) refl)) 1 (omega arith) refl
    late_set (are_calls_lem late_set refl) (λ e. refl, λ e. (λ e. refl, λ e. tt)) (omega arith)))

-- refused main cycles count: two with 7 bytes of room
abbrev is_cycle : Call → Bool
is_cycle (frame t bytes) = false
is_cycle (read domain t) = false
is_cycle (set domain t s ns) = false
is_cycle (cycle t out) = true
is_cycle (confirm domain t counter out) = false

abbrev DueAtEach : Node → List Call → (i : ℕ) → Type 0
DueAtEach n [] i = Unit {0}
DueAtEach n (c ∷ rest) i =
    (is_cycle c ≡ true → is_due (record_at n.domains i) (reading_of c) ≡ true)
    × (does_send n c i ≡ false → DueAtEach (node_after n c) rest i)

abbrev cycles_in : Node → List Call → ℕ
cycles_in n [] = 0
cycles_in n (c ∷ rest) = cond (is_cycle c) 1 0 + cycles_in (node_after n c) rest

abbrev short_of_room : List Call
short_of_room = cycle_of 7 ∷ cycle_of 7 ∷ []

pub refused_cycles_false : Altered masters rounded_up DueAtEach cycles_in → ⊥
unfolding goes
refused_cycles_false says =
    true≢false
    (sym (says (after (sets_from 2 0)) (reached (sets_from 2 0) (are_calls_lem (sets_from 2 0) refl)) 0 (omega arith) refl
    short_of_room (are_calls_lem short_of_room refl) (λ e. refl, λ e. (λ e. refl, λ e. tt)) (omega arith)))

-- due at the first completed main cycle alone: 0 sends in it, then 1 is set to the last second that is sent, and the
-- next main cycle comes a second later
abbrev DueAtFirst : Node → List Call → (i : ℕ) → Type 0
DueAtFirst n [] i = Unit {0}
DueAtFirst n (c ∷ rest) i =
    (is_completed n c ≡ true → is_due (record_at n.domains i) (reading_of c) ≡ true)
    × (is_completed n c ≡ false → DueAtFirst (node_after n c) rest i)

abbrev past_the_end : List Call
past_the_end = cycle_of 8 ∷ set 1 (reading 0) 4294967295 0 ∷ cycle (reading 1000000000) (replicate 8 0) ∷ []

pub due_at_first_false : Altered masters rounded_up DueAtFirst completed → ⊥
unfolding goes
due_at_first_false says =
    true≢false
    (sym (says (after (sets_from 2 0)) (reached (sets_from 2 0) (are_calls_lem (sets_from 2 0) refl)) 1 (omega arith) refl
    past_the_end (are_calls_lem past_the_end refl) (λ e. refl, λ e. absurd (true≢false e)) (omega arith)))
