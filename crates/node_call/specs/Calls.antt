-- Paper 01: the calls of a node, with their arguments as the calls take them, and what each answers.
-- Assumes nothing.
use Rattle.std.specs.Prelude.{ℕ, zero, suc, cond, List, [], ◌∷◌, eqb, length, take, drop}
use Rattle.clock.specs.declared.reading.VirtualLocalTime.{VirtualLocalTime}
use Rattle.call_read.specs.declared.Shown.{Shown}
use Rattle.call_read.specs.Answer.{read_values}
use Rattle.node.specs.declared.Node.{Node}
use Rattle.node.specs.Frame.{node_frame_of}
use Rattle.node.specs.Read.{node_read_of}
use Rattle.node.specs.Set.{node_set_of}
use Rattle.node.specs.CycleAnswer.{cycle_count}
use Rattle.node.specs.Cycle.{node_cycle_of, cycle_bytes}
use Rattle.node.specs.Confirm.{node_confirm_of, confirmed_bytes}
use Rattle.node_call.specs.declared.CallAnswer.{CallAnswer}
use Rattle.node_call.specs.declared.CallAnswer.TheVariants.{Frame, Read, Set, Cycle, Confirm}
use Rattle.refusal.specs.Numbers.{outcome_number}

-- ---- A call; a lent buffer by what it holds.
pub data Call : Type 0 where
  frame : (t : VirtualLocalTime) (bytes : List ℕ) → Call
  read : (domain : ℕ) (t : VirtualLocalTime) → Call
  set : (domain : ℕ) (t : VirtualLocalTime) (seconds nanoseconds : ℕ) → Call
  cycle : (t : VirtualLocalTime) (out : List ℕ) → Call
  confirm : (domain : ℕ) (t : VirtualLocalTime) (counter : ℕ) (out : List ℕ) → Call

-- ---- Its reading.
abbrev pub reading_of : Call → VirtualLocalTime
reading_of (frame t bytes) = t
reading_of (read domain t) = t
reading_of (set domain t s ns) = t
reading_of (cycle t out) = t
reading_of (confirm domain t counter out) = t

-- ---- The node after it.
abbrev pub node_after : Node → Call → Node
node_after n (frame t bytes) = (node_frame_of n t bytes).node
node_after n (read domain t) = n
node_after n (set domain t s ns) = (node_set_of n domain t s ns).node
node_after n (cycle t out) = (node_cycle_of n t (length out)).node
node_after n (confirm domain t counter out) = (node_confirm_of n domain t counter (length out)).node

-- ---- Its answer, a case of an enum.
abbrev pub answer_of : Node → Call → CallAnswer
answer_of n (frame t bytes) = Frame (node_frame_of n t bytes).answer
answer_of n (read domain t) = Read (node_read_of n domain t)
answer_of n (set domain t s ns) = Set (node_set_of n domain t s ns).answer
answer_of n (cycle t out) = Cycle (node_cycle_of n t (length out)).answer
answer_of n (confirm domain t counter out) = Confirm (node_confirm_of n domain t counter (length out)).answer

abbrev pub call_number : CallAnswer → ℕ
call_number (Frame answer) = outcome_number answer
call_number (Read answer) = outcome_number answer
call_number (Set answer) = outcome_number answer
call_number (Cycle answer) = outcome_number answer
call_number (Confirm answer) = outcome_number answer

-- ---- A buffer after it: a call that is lent none leaves it.
abbrev pub bytes_after : Node → Call → (before : List ℕ) → List ℕ
bytes_after n (frame t bytes) before = before
bytes_after n (read domain t) before = before
bytes_after n (set domain t s ns) before = before
bytes_after n (cycle t out) before = cycle_bytes (node_cycle_of n t (length out)).answer n t out
bytes_after n (confirm domain t counter out) before =
    confirmed_bytes (node_confirm_of n domain t counter (length out)).answer n domain out

-- ---- The bytes that a call is lent.
abbrev pub lent_to : Call → List ℕ
lent_to (frame t bytes) = []
lent_to (read domain t) = []
lent_to (set domain t s ns) = []
lent_to (cycle t out) = out
lent_to (confirm domain t counter out) = out

-- ---- What a case tells: its number, and its values: what a read shows, how many frames a main cycle sent, and the
-- lent buffer after the call.
pub data Answer : Type 0 where
  numbered : (number : ℕ) → Answer
  shows : (number : ℕ) → Shown → Answer
  sends : (number count : ℕ) (out : List ℕ) → Answer
  follows : (number : ℕ) (out : List ℕ) → Answer

abbrev pub told_by : CallAnswer → (out : List ℕ) → Answer
told_by (Frame answer) out = numbered (outcome_number answer)
told_by (Read answer) out = shows (outcome_number answer) (read_values answer)
told_by (Set answer) out = numbered (outcome_number answer)
told_by (Cycle answer) out = sends (outcome_number answer) (cycle_count answer) out
told_by (Confirm answer) out = follows (outcome_number answer) out

abbrev pub answer_to : Node → Call → Answer
answer_to n c = told_by (answer_of n c) (bytes_after n c (lent_to c))

-- ---- The number alone.
abbrev pub number_in : Answer → ℕ
number_in (numbered number) = number
number_in (shows number shown) = number
number_in (sends number count out) = number
number_in (follows number out) = number

-- ---- The answers to calls one after another.
abbrev pub answers_to : Node → List Call → List Answer
answers_to n [] = []
answers_to n (c ∷ rest) = answer_to n c ∷ answers_to (node_after n c) rest

-- ---- The node after them.
abbrev pub node_after_all : Node → List Call → Node
node_after_all n [] = n
node_after_all n (c ∷ rest) = node_after_all (node_after n c) rest

-- ---- The lent bytes after a call; the frames counted.
abbrev pub lent_after : Answer → List ℕ
lent_after (numbered number) = []
lent_after (shows number shown) = []
lent_after (sends number count out) = out
lent_after (follows number out) = out

abbrev pub count_in : Answer → ℕ
count_in (numbered number) = 0
count_in (shows number shown) = 0
count_in (sends number count out) = count
count_in (follows number out) = 0

-- ---- The frames that a call gives, as bytes: so many of 8 from a main cycle, one from a confirmation.
abbrev pub eights : (count : ℕ) → List ℕ → List (List ℕ)
eights zero out = []
eights (suc count) out = take 8 out ∷ eights count (drop 8 out)

abbrev pub given_by : Answer → List (List ℕ)
given_by (numbered number) = []
given_by (shows number shown) = []
given_by (sends number count out) = eights count out
given_by (follows number out) = cond (eqb number 0) (take 8 out ∷ []) []
