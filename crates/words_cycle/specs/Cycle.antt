-- Paper 01, "A master's domain": a main cycle of a node in words. Assumes nothing.
use Rattle.std.specs.Prelude.{ℕ, zero, suc, ◌*◌, ◌%◌, ◌≡◌, Bool, true, false, cond, List, [], ◌∷◌, ◌++◌, eqb, ltb, leb, length, set, None, Option, Some}
use Rattle.clock.specs.declared.reading.VirtualLocalTime.{VirtualLocalTime}
use Rattle.refusal.specs.declared.Refusal.TheVariants.{Reading, NoRoom}
use Rattle.refusal.specs.Numbers.{number_of}
use Rattle.settings.specs.Node.{places}
use Rattle.admission.specs.Reading.{is_good_reading}
use Rattle.master_send.specs.Send.{send_of}
use Rattle.round.specs.Turn.{turn_of, next_place, next_after}
use Rattle.round.specs.Round.{frames_by, sent_after, pasted}
use Rattle.node_words.specs.Words.{kept_of, record_of, sent_put}
use Rattle.node_words.specs.Node.{syncs_of, round_of, head_word}
use Rattle.words_cycle.specs.declared.turns.Gone.{Gone}
use Rattle.domain.specs.declared.DomainStep.{DomainStep}
use Rattle.frame.specs.declared.values.Sync.{Sync}

-- ---- The words after a record's turn: those of its SYNC where it sent.
abbrev pub has_sent : Option Sync → Bool
has_sent (Some sync) = true
has_sent None = false

abbrev pub turn_words : DomainStep (Option Sync) → List ℕ → (at : ℕ) → List ℕ
turn_words s words at = cond (has_sent s.answer) (sent_put words at s.domain) words

-- ---- The words after some turns, where the next round starts, and the frames sent.
pub record Went : Type 0 where
  pub words : List ℕ
  pub next : ℕ
  pub frames : List (List ℕ)

abbrev pub before : List (List ℕ) → Went → Went
before frames g = record { words = g.words; next = g.next; frames = frames ++ g.frames }

-- ---- The turns of a round from place `at` on, `sent` of `most` having sent before them.
unfoldable pub goes : (turns at sent most : ℕ) → VirtualLocalTime → List ℕ → (next : ℕ) → Went
goes zero at sent most t words next = record { words = words; next = next; frames = [] }
goes (suc turns) at sent most t words next =
    let s = turn_of (ltb sent most) (record_of words at) t in
    before (frames_by s.answer (record_of words at).settings.ids)
    (goes turns (next_place places at) (sent_after s.answer sent) most t (turn_words s words at)
    (next_after s.answer at next))

abbrev pub went_by : List ℕ → (first : ℕ) → VirtualLocalTime → (most : ℕ) → Went
went_by words first t most = goes places (first % places) 0 most t words first

-- ---- 1, 12: the number, and the words after it.
abbrev pub cycle_number_in : List ℕ → (t room : ℕ) → ℕ
cycle_number_in words t room =
    cond (is_good_reading (kept_of words) (record { 0 = t }))
    (cond (leb (8 * syncs_of words) room) 0 (number_of NoRoom))
    (number_of Reading)

abbrev pub went_from : List ℕ → (t : ℕ) → Went
went_from words t = went_by words (round_of words) (record { 0 = t }) (syncs_of words)

abbrev pub cycled_words : List ℕ → (t : ℕ) → List ℕ
cycled_words words t =
    set (set (went_from words t).words 0 t) 1 (head_word (syncs_of words) (went_from words t).next)

-- ---- The promises: what is answered, every word and every lent byte.
pub record TurnedIn
    (words : List ℕ) (at : ℕ) (t : VirtualLocalTime) (before : List ℕ) (sent : ℕ)
    (r : Bool) (after out : List ℕ) : Type 0 where
  pub sends : r ≡ has_sent (send_of (record_of words at) t).answer
  pub words_after : after ≡ turn_words (send_of (record_of words at) t) words at
  pub bytes :
      out ≡ pasted sent (frames_by (send_of (record_of words at) t).answer (record_of words at).settings.ids) before

pub record GoneIn
    (words : List ℕ) (first : ℕ) (t : VirtualLocalTime) (most : ℕ) (before : List ℕ)
    (r : Gone) (after out : List ℕ) : Type 0 where
  pub gone : r ≡ record { next = (went_by words first t most).next; sent = length (went_by words first t most).frames }
  pub words_after : after ≡ (went_by words first t most).words
  pub bytes : out ≡ pasted 0 (went_by words first t most).frames before

pub record CycledBy
    (words : List ℕ) (t : ℕ) (before told : List ℕ) (r : ℕ) (after out sent : List ℕ) : Type 0 where
  pub number : r ≡ cycle_number_in words t (length before)
  pub words_after : after ≡ cond (eqb r 0) (cycled_words words t) words
  pub bytes : out ≡ cond (eqb r 0) (pasted 0 (went_from words t).frames before) before
  pub counts : sent ≡ cond (eqb r 0) (length (went_from words t).frames ∷ []) told
