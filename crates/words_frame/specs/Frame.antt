-- A frame to a node in words. Assumes nothing.
use Rattle.std.specs.Prelude.{ℕ, ◌≡◌, Bool, cond, ◌||◌, List, [], ◌∷◌, eqb, ℤ, pos, set, Err, Ok}
use Rattle.call_frame.specs.FrameCall.{frame_call_of}
use Rattle.node.specs.Frame.{addressed_by}
use Rattle.node_words.specs.Words.{kept_of, record_of, frame_put}
use Rattle.domain.specs.declared.DomainCall.{DomainCall}
use Rattle.refusal.specs.Numbers.{Outcome, outcome_number}
use Rattle.slave_answer.specs.declared.Taken.{Taken}
use Rattle.slave_answer.specs.declared.Taken.TheVariants.{First, Opened, Updated}

-- ---- The call of the record that the frame names.
abbrev pub called_in : List ℕ → (t : ℕ) → List ℕ → DomainCall (Outcome Taken)
called_in words t bytes = frame_call_of (record_of words (addressed_by bytes)) (kept_of words) (record { 0 = t }) bytes

-- ---- The words after it: what was taken is put back, and what 6 and 15 keep of a row.
abbrev pub is_stored : (number : ℕ) → Bool
is_stored number = eqb number 0 || eqb number 6 || eqb number 15

abbrev pub stored_by : List ℕ → (at : ℕ) → DomainCall (Outcome Taken) → List ℕ
stored_by words at call =
    cond (is_stored (outcome_number call.answer)) (frame_put (set words 0 call.kept.0) at call.domain) words

abbrev pub frame_words : List ℕ → (t : ℕ) → List ℕ → List ℕ
frame_words words t bytes = stored_by words (addressed_by bytes) (called_in words t bytes)

-- ---- What is told of it: 1 a SYNC, 2 the first time, 3 an update with its D; of a refused frame nothing.
abbrev pub told : Outcome Taken → List ℤ → List ℤ
told (Ok Opened) before = pos 1 ∷ pos 0 ∷ []
told (Ok First) before = pos 2 ∷ pos 0 ∷ []
told (Ok (Updated d)) before = pos 3 ∷ d ∷ []
told (Err refusal) before = before

-- ---- The promises: the answer, every word, and what is told.
pub record TakenIn (words : List ℕ) (t : ℕ) (bytes : List ℕ) (r : Outcome Taken) (after : List ℕ) : Type 0 where
  pub answer : r ≡ (called_in words t bytes).answer
  pub words_after : after ≡ frame_words words t bytes

pub record FramedIn
    (words : List ℕ) (t : ℕ) (bytes : List ℕ) (before : List ℤ) (r : ℕ) (after : List ℕ) (taken : List ℤ) : Type 0 where
  pub number : r ≡ outcome_number (called_in words t bytes).answer
  pub words_after : after ≡ frame_words words t bytes
  pub tells : taken ≡ told (called_in words t bytes).answer before
