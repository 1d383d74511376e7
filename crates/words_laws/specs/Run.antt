-- The calls of a node in words, as `words_frame`, `words_call` and `words_cycle` promise them: any call as data, its
-- answer, the lent bytes and the words after it, and calls one after another. Assumes nothing.
use Rattle.refusal.specs.Numbers.{Outcome}
use Rattle.std.specs.Prelude.{ℕ, ◌%◌, ◌*◌, cond, List, [], ◌∷◌, eqb, leb, length, Err, Ok}
use Rattle.settings.specs.Node.{places}
use Rattle.refusal.specs.declared.Refusal.TheVariants.{Reading, NoRoom}
use Rattle.admission.specs.Reading.{is_good_reading}
use Rattle.call_confirm.specs.ConfirmCall.{confirm_bytes}
use Rattle.round.specs.Round.{pasted}
use Rattle.node_call.specs.declared.CallAnswer.{CallAnswer}
use Rattle.node_call.specs.declared.CallAnswer.TheVariants.{Frame, Read, Set, Cycle, Confirm}
use Rattle.node_call.specs.Calls.{Call, frame, read, set, cycle, confirm, Answer, told_by, lent_to}
use Rattle.node_words.specs.Words.{kept_of, record_of}
use Rattle.node_words.specs.Node.{syncs_of}
use Rattle.words_frame.specs.Frame.{called_in, frame_words}
use Rattle.words_call.specs.Calls.{read_by, set_by, set_words, confirm_by, confirm_words}
use Rattle.words_cycle.specs.Cycle.{cycle_number_in, went_from, cycled_words}

-- ---- A main cycle: what it answers, and the words after it.
abbrev pub cycle_answer : List ℕ → (t room : ℕ) → Outcome ℕ
cycle_answer words t room =
    cond (is_good_reading (kept_of words) (record { 0 = t }))
    (cond (leb (8 * syncs_of words) room) (Ok (length (went_from words t).frames)) (Err NoRoom))
    (Err Reading)

abbrev pub cycle_words : List ℕ → (t room : ℕ) → List ℕ
cycle_words words t room = cond (eqb (cycle_number_in words t room) 0) (cycled_words words t) words

abbrev pub cycle_out : List ℕ → (t : ℕ) → (out : List ℕ) → List ℕ
cycle_out words t out =
    cond (eqb (cycle_number_in words t (length out)) 0) (pasted 0 (went_from words t).frames out) out

-- ---- Any call: the words after it, its answer, and a lent buffer after it.
abbrev pub words_after : List ℕ → Call → List ℕ
words_after words (frame t bytes) = frame_words words t.0 bytes
words_after words (read domain t) = words
words_after words (set domain t s ns) = set_words words domain (set_by words domain t.0 s ns)
words_after words (cycle t out) = cycle_words words t.0 (length out)
words_after words (confirm domain t counter out) =
    confirm_words words domain (confirm_by words domain t.0 counter (length out))

abbrev pub answer_in : List ℕ → Call → CallAnswer
answer_in words (frame t bytes) = Frame (called_in words t.0 bytes).answer
answer_in words (read domain t) = Read (read_by words domain t.0)
answer_in words (set domain t s ns) = Set (set_by words domain t.0 s ns).answer
answer_in words (cycle t out) = Cycle (cycle_answer words t.0 (length out))
answer_in words (confirm domain t counter out) =
    Confirm (confirm_by words domain t.0 counter (length out)).answer

abbrev pub bytes_in : List ℕ → Call → (before : List ℕ) → List ℕ
bytes_in words (frame t bytes) before = before
bytes_in words (read domain t) before = before
bytes_in words (set domain t s ns) before = before
bytes_in words (cycle t out) before = cycle_out words t.0 out
bytes_in words (confirm domain t counter out) before =
    confirm_bytes (confirm_by words domain t.0 counter (length out)).answer
    (record_of words (domain % places)).settings.ids out

abbrev pub answer_on : List ℕ → Call → Answer
answer_on words c = told_by (answer_in words c) (bytes_in words c (lent_to c))

-- ---- Calls one after another: their answers, and the words after them.
abbrev pub answers_on : List ℕ → List Call → List Answer
answers_on words [] = []
answers_on words (c ∷ rest) = answer_on words c ∷ answers_on (words_after words c) rest

abbrev pub words_after_all : List ℕ → List Call → List ℕ
words_after_all words [] = words
words_after_all words (c ∷ rest) = words_after_all (words_after words c) rest
