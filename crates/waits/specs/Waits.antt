-- Paper 02, request 7: "Show that a master domain that is due, and stays due until it sends, sends within the number of
-- completed main cycles that is the number of master domains divided by S, rounded up, whichever others are due."
-- Assumes nothing.
use Rattle.std.specs.Prelude.{ℕ, ◌+◌, ◌-◌, ◌/◌, ◌≤◌, ◌<◌, ◌≡◌, Bool, true, false, cond, ◌&&◌, ◌||◌, List, [], ◌∷◌, map, eqb}
use Rattle.settings.specs.Node.{places}
use Rattle.domain.specs.Records.{record_at}
use Rattle.master_send.specs.Send.{is_due}
use Rattle.node.specs.declared.Node.{Node}
use Rattle.node.specs.Frame.{addressed_by}
use Rattle.node_call.specs.Calls.{
  Call,
  frame,
  read,
  set,
  cycle,
  confirm,
  reading_of,
  node_after,
  answer_to,
  number_in,
  given_by,
}
use Rattle.node_laws.specs.Reachable.{AreCalls, Reachable}
use Rattle.node_laws.specs.Apart.{is_master_at}
use Rattle.node_laws.specs.Due.{count_below}

-- ---- "completed main cycles": those that are answered by 0, idle ones too; and how many there are among calls
abbrev pub is_completed : Node → Call → Bool
is_completed n (frame t bytes) = false
is_completed n (read domain t) = false
is_completed n (set domain t s ns) = false
is_completed n (cycle t out) = eqb (number_in (answer_to n (cycle t out))) 0
is_completed n (confirm domain t counter out) = false

abbrev pub completed : Node → List Call → ℕ
completed n [] = 0
completed n (c ∷ rest) = cond (is_completed n c) 1 0 + completed (node_after n c) rest

-- ---- "sends": a frame that a completed main cycle leaves in the lent buffer names domain i
abbrev pub is_among : (i : ℕ) → List ℕ → Bool
is_among i [] = false
is_among i (p ∷ ps) = eqb p i || is_among i ps

abbrev pub does_send : Node → Call → (i : ℕ) → Bool
does_send n c i = is_completed n c && is_among i (map addressed_by (given_by (answer_to n c)))

abbrev pub has_sent : Node → List Call → (i : ℕ) → Bool
has_sent n [] i = false
has_sent n (c ∷ rest) i = does_send n c i || has_sent (node_after n c) rest i

-- ---- "the number of master domains divided by S, rounded up"
abbrev pub masters : Node → ℕ
masters n = count_below (is_master_at n) places

abbrev pub rounded_up : (m s : ℕ) → ℕ
rounded_up m s = (m + (s - 1)) / s

-- ---- "is due, and stays due until it sends": at the reading of each completed main cycle, up to and with the one in
-- which it sends, by its record as it stands before that cycle
abbrev pub DueUntilSent : Node → List Call → (i : ℕ) → Type 0
DueUntilSent n [] i = Unit {0}
DueUntilSent n (c ∷ rest) i =
    (is_completed n c ≡ true → is_due (record_at n.domains i) (reading_of c) ≡ true)
    × (does_send n c i ≡ false → DueUntilSent (node_after n c) rest i)

-- ---- From any reachable node on and among any calls, for any S and any number of masters.
abbrev pub EachSends : Type 0
EachSends =
    (n : Node) → Reachable n → (i : ℕ) → i < places → is_master_at n i ≡ true →
    (cs : List Call) → AreCalls cs → DueUntilSent n cs i →
    rounded_up (masters n) n.syncs_per_cycle ≤ completed n cs → has_sent n cs i ≡ true
