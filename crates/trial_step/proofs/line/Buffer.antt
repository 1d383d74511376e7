-- A lent buffer in the line: a dash where it has no byte, and otherwise its bytes; and a main cycle's, sent or
-- refused. Assumes nothing.
use Rattle.std.specs.Prelude.{Err, Ok}
use Prim.Native.Nat.{ℕ}
use mathlib.Core.Path.{◌≡◌, refl}
use mathlib.Core.List.{List, [], ◌∷◌, ◌++◌}
use native.Mathlib.Omega.{arith}
use lib.ListN.{length}
use Rattle.text.specs.Text.{hex_of, decimal}
use Rattle.text.specs.Lines.{blank}
use Rattle.node.specs.CycleAnswer.{cycle_count}
use Rattle.node_call.specs.declared.CallAnswer.TheVariants.{Cycle}
use Rattle.trial_step.specs.TrialLine.{shown_buffer, buffer_text, trial_values}
use Rattle.refusal.specs.Numbers.{Outcome}

pub no_byte : (buffer : List ℕ) → length buffer ≡ 0 → 45 ∷ [] ≡ shown_buffer buffer
no_byte [] none = refl
no_byte (b ∷ bs) none = absurd (omega (arith, none))

pub some_byte : (buffer : List ℕ) → (length buffer ≡ 0 → ⊥) → hex_of buffer ≡ shown_buffer buffer
some_byte [] some = absurd (some refl)
some_byte (b ∷ bs) some = refl

-- by cases: each of the two answers has the buffer in its text
pub cycle_shows :
    (answer : Outcome ℕ) (buffer : List ℕ) →
    blank ++ decimal (cycle_count answer) ++ buffer_text buffer ≡ trial_values (Cycle answer) buffer
cycle_shows (Ok count) buffer = refl
cycle_shows (Err refusal) buffer = refl
