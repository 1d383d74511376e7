-- The hypotheses of `six_keeps`, `fifteen_keeps`, `stale_pair` and `taken_in_row` can be met: frames for a slave with
-- J 1, H 2, F 100 ns and L 1000 ns, and the whole node after them. No contract cites this file.
--   row_settings_good   its settings are good
--   row_reached         the node after any calls is reachable
--   fifteen_met         counters 5, 6: the second is answered 15, and the row is 1
--   six_met             counters 5, 6, 9: the third is answered 6, and the row is 0
--   six_complete_met    counters 5, 6, 7, 11: the row was complete, and nothing changes under 6
--   fifteen_open_met    counters 5, 6, 7, and 2 more than L later: 15, the row begins anew, and the pair of 7 stays
--   taken_met           counters 5, 6, 7, and the FUP of 7: it is taken
--   taken_later_met     counters 5, 6, 7 exactly L after, 11, which is refused, and the FUP of 7: it is taken
-- Assumes nothing.
use Rattle.std.specs.Prelude.{None, Ok, Option, Some}
use Prim.Native.Nat.{ℕ, ◌+◌}
use mathlib.Core.Path.{◌≡◌, refl}
use mathlib.Core.List.{List, [], ◌∷◌}
use lib.ListN.{replicate}
use Rattle.clock.specs.declared.reading.VirtualLocalTime.{VirtualLocalTime}
use Rattle.frame_check.specs.declared.CheckMode.TheVariants.{NotValidated}
use Rattle.settings.specs.declared.domain_settings.DomainSettings.{DomainSettings}
use Rattle.settings.specs.declared.node_settings.NodeSettings.{NodeSettings}
use Rattle.settings.specs.Domain.{absent_held, as_slave}
use Rattle.domain.specs.declared.LastSync.{LastSync}
use Rattle.domain.specs.declared.LastSync.TheVariants.{Seen}
use Rattle.domain.specs.Fresh.{fresh_of}
use Rattle.domain.specs.Fields.{with_pairing, with_last}
use Rattle.node.specs.declared.Node.{Node}
use Rattle.node.specs.New.{new_of}
use Rattle.node.specs.Store.{stored_in}
use Rattle.node_call.specs.Calls.{Call, frame, node_after, node_after_all, answer_to, number_in}
use Rattle.node_laws.specs.Reachable.{AreCalls, Reachable, new}
use Rattle.node_laws.specs.InRow.{Heard, accepted, refused, heard_in}
use Rattle.node_laws.proofs.Witness.{reaches}
use Rattle.domain.specs.declared.Pair.{Pair}

abbrev row_slave : DomainSettings
row_slave = as_slave 1 2 100 1000 0 0 1 NotValidated absent_held.ids

abbrev row_settings : NodeSettings
row_settings = record { syncs_per_cycle = 1; domains = absent_held ∷ row_slave ∷ replicate 14 absent_held }

pub row_settings_good : (new_of row_settings).answer ≡ Ok tt
row_settings_good = refl

-- ---- a plain SYNC of 100 seconds for domain 1; the node after such frames

abbrev reading : ℕ → VirtualLocalTime
reading t = record { 0 = t }

abbrev sync_at : (t counter : ℕ) → Call
sync_at t counter = frame (reading t) (0x10 ∷ 0 ∷ (0x10 + counter) ∷ 0 ∷ 0 ∷ 0 ∷ 0 ∷ 100 ∷ [])

abbrev after : List Call → Node
after calls = node_after_all (new_of row_settings).node calls

pub row_reached : (calls : List Call) → AreCalls calls → Reachable (after calls)
row_reached = reaches (new_of row_settings).node (new row_settings refl)

-- ---- the fresh node but for a pairing, a SYNC accepted last, and a kept reading

abbrev standing : Option Pair → LastSync → (kept : ℕ) → Node
standing pairing last kept =
    stored_in (new_of row_settings).node 1 (with_last (with_pairing (fresh_of 1 row_slave) pairing) last) (reading kept)

-- ---- the answer to a frame after others, and the node that it leaves

abbrev Leaves : (before : List Call) → Call → (number : ℕ) → Node → Type 0
Leaves before c number n = (number_in (answer_to (after before) c) ≡ number) × (node_after (after before) c ≡ n)

abbrev two : List Call
two = sync_at 10 5 ∷ sync_at 20 6 ∷ []

abbrev three : List Call
three = sync_at 10 5 ∷ sync_at 20 6 ∷ sync_at 30 7 ∷ []

abbrev pair_of_seven : Option Pair
pair_of_seven = Some (record { at = reading 30; seconds = 100; counter = 7; user0 = 0; user1 = 0 })

pub fifteen_met : Leaves (sync_at 10 5 ∷ []) (sync_at 20 6) 15 (standing None (Seen 6 1 (reading 20)) 20)
fifteen_met = (refl, refl)

pub six_met : Leaves two (sync_at 30 9) 6 (standing None (Seen 6 0 (reading 20)) 20)
six_met = (refl, refl)

pub six_complete_met : Leaves three (sync_at 40 11) 6 (standing pair_of_seven (Seen 7 2 (reading 30)) 30)
six_complete_met = (refl, refl)

pub fifteen_open_met : Leaves three (sync_at 1031 2) 15 (standing pair_of_seven (Seen 2 0 (reading 1031)) 1031)
fifteen_open_met = (refl, refl)

-- ---- a FUP that is taken, with what was heard before it

abbrev fup_at : (t counter : ℕ) → Call
fup_at t counter = frame (reading t) (0x18 ∷ 0 ∷ (0x10 + counter) ∷ 0 ∷ 0 ∷ 0 ∷ 0 ∷ 7 ∷ [])

abbrev TakenAfter : (before : List Call) → Call → List Heard → Type 0
TakenAfter before c heard =
    (number_in (answer_to (after before) c) ≡ 0) × (heard_in 1 (new_of row_settings).node before [] ≡ heard)

pub taken_met :
    TakenAfter three (fup_at 40 7)
    (accepted 7 (reading 30) ∷ accepted 6 (reading 20) ∷ accepted 5 (reading 10) ∷ [])
taken_met = (refl, refl)

pub taken_later_met :
    TakenAfter (sync_at 10 5 ∷ sync_at 20 6 ∷ sync_at 1020 7 ∷ sync_at 1030 11 ∷ []) (fup_at 1040 7)
    (refused ∷ accepted 7 (reading 1020) ∷ accepted 6 (reading 20) ∷ accepted 5 (reading 10) ∷ [])
taken_later_met = (refl, refl)
