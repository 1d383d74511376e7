-- The trial's line of an answer. Assumes nothing.
use Rattle.std.specs.Prelude.{ℕ, true, List, [], ◌∷◌, ◌++◌, Err, Ok, ⊤}
use Rattle.text.specs.declared.Out.{Out}
use Rattle.text.specs.Text.{hex_byte, hex_of, decimal}
use Rattle.text.specs.Lines.{blank, newline, answer_text}
use Rattle.settings.specs.declared.domain_settings.UserBytes.{UserBytes}
use Rattle.node.specs.declared.Node.{Node}
use Rattle.node.specs.CycleAnswer.{cycle_count}
use Rattle.node_call.specs.declared.CallAnswer.{CallAnswer}
use Rattle.node_call.specs.declared.CallAnswer.TheVariants.{Frame, Read, Set, Cycle, Confirm}
use Rattle.node_call.specs.Calls.{call_number}
use Rattle.bench_record.specs.declared.step.Step.{Step}
use Rattle.bench_record.specs.Step.{Stepped}
use Rattle.bench_record.specs.Line.{shown_text, line_with}
use Rattle.call_read.specs.declared.Shown.{Shown}
use Rattle.refusal.specs.Numbers.{Outcome, outcome_number}

-- ---- User bytes 0 to 2.
abbrev pub user_text : UserBytes → List ℕ
user_text u = hex_byte u.0 ++ hex_byte u.1 ++ hex_byte u.2

-- ---- A read that succeeds adds time, status, user bytes and update counter.
abbrev pub trial_read : Outcome Shown → List ℕ
trial_read (Ok shown) = shown_text shown ++ blank ++ user_text shown.user ++ blank ++ decimal shown.updates
trial_read (Err refusal) = []

-- ---- A lent buffer, whole, and a dash where it is empty.
abbrev pub shown_buffer : List ℕ → List ℕ
shown_buffer [] = 45 ∷ []
shown_buffer (b ∷ bs) = hex_of (b ∷ bs)

abbrev pub buffer_text : List ℕ → List ℕ
buffer_text buffer = blank ++ shown_buffer buffer

abbrev pub trial_values : CallAnswer → (buffer : List ℕ) → List ℕ
trial_values (Frame answer) buffer = []
trial_values (Read answer) buffer = trial_read answer
trial_values (Set answer) buffer = []
trial_values (Cycle answer) buffer = blank ++ decimal (cycle_count answer) ++ buffer_text buffer
trial_values (Confirm answer) buffer = buffer_text buffer

abbrev pub trial_line : (item : ℕ) → CallAnswer → (buffer : List ℕ) → List ℕ
trial_line item answer buffer = line_with item (call_number answer) (trial_values answer buffer)

-- ---- A queue's line has its number and the answer buffer.
abbrev pub queue_line : (item : ℕ) → Outcome ⊤ → (buffer : List ℕ) → List ℕ
queue_line item answer buffer = line_with item (outcome_number answer) (buffer_text buffer)

-- ---- The line of an answer that has no values, and the node after it.
abbrev pub Numbered : Node → (number item : ℕ) (before : Out) → Step → Out → Type 0
Numbered n number item before r after = Stepped n true (answer_text item number ++ newline) before r after
