-- Paper 02, request 13: what a line counts, from the answers to one domain's frames. Assumes nothing.
use Rattle.std.specs.Prelude.{ℕ, ◌+◌, ◌≡◌, ◌⊎◌, cond, ◌&&◌, List, [], ◌∷◌, ◌++◌, eqb, ltb, ℤ, ◌≤ℤ◌}
use Rattle.node.specs.declared.Node.{Node}
use Rattle.node.specs.Frame.{addressed_by, node_frame_of}
use Rattle.node_call.specs.Calls.{Call, frame, read, set, cycle, confirm, node_after}
use Rattle.node_laws.specs.Leaps.{moves_of}
use Rattle.sheet_tally.specs.Tally.{columns, column_of}
use Rattle.refusal.specs.Numbers.{Outcome}
use Rattle.slave_answer.specs.declared.Taken.{Taken}

-- ---- The answers to the frames of the domain at place i that a column counts, in order.
abbrev pub heard_by : (i : ℕ) → Node → Call → List (Outcome Taken)
heard_by i n (frame t bytes) =
    let answer = (node_frame_of n t bytes).answer in
    cond (eqb (addressed_by bytes) i && ltb (column_of answer) columns) (answer ∷ []) []
heard_by i n (read domain t) = []
heard_by i n (set domain t s ns) = []
heard_by i n (cycle t out) = []
heard_by i n (confirm domain t counter out) = []

abbrev pub heard_in : (i : ℕ) → Node → List Call → List (Outcome Taken)
heard_in i n [] = []
heard_in i n (c ∷ rest) = heard_by i n c ++ heard_in i (node_after n c) rest

-- ---- How many of them a column counts.
abbrev pub count_in : (column : ℕ) → List (Outcome Taken) → ℕ
count_in column [] = 0
count_in column (answer ∷ rest) = cond (eqb (column_of answer) column) 1 0 + count_in column rest

-- ---- Their D.
abbrev pub differences_in : List (Outcome Taken) → List ℤ
differences_in [] = []
differences_in (answer ∷ rest) = moves_of answer ++ differences_in rest

-- ---- A number that is one of a list's.
abbrev pub IsIn : ℤ → List ℤ → Type 0
IsIn z [] = ⊥
IsIn z (d ∷ rest) = (z ≡ d) ⊎ IsIn z rest

-- ---- The least of a list, and the greatest: one of it, and none is less, or greater.
pub record IsLeast (z : ℤ) (ds : List ℤ) : Type 0 where
  pub stands_in : IsIn z ds
  pub least : (d : ℤ) → IsIn d ds → z ≤ℤ d

pub record IsGreatest (z : ℤ) (ds : List ℤ) : Type 0 where
  pub stands_in : IsIn z ds
  pub greatest : (d : ℤ) → IsIn d ds → d ≤ℤ z
