-- A node in 354 words: the kept reading; S and the round; then 22 for each record, eleven with its settings and eleven
-- with its state. Assumes nothing.
use Rattle.std.specs.Prelude.{ℕ, ◌+◌, ◌*◌, List, ◌++◌, get_or, take, drop}
use Rattle.clock.specs.declared.reading.VirtualLocalTime.{VirtualLocalTime}
use Rattle.domain.specs.declared.Domain.{Domain}
use Rattle.record_words.specs.Record.{settings_of, number_of, domain_of, state_words}

-- ---- The sizes, and where a record's settings and state begin.
abbrev pub node_size : ℕ
node_size = 354

abbrev pub settings_at : (at : ℕ) → ℕ
settings_at at = 2 + 22 * at

abbrev pub state_at : (at : ℕ) → ℕ
state_at at = 13 + 22 * at

-- ---- The part of a list with so many elements from a place on; and the list with others in place of as many.
abbrev pub part_of : (from count : ℕ) → List ℕ → List ℕ
part_of from count words = take count (drop from words)

abbrev pub with_part : (from count : ℕ) → List ℕ → List ℕ → List ℕ
with_part from count words part = take from words ++ (part ++ drop count (drop from words))

-- ---- What words say.
abbrev pub kept_of : List ℕ → VirtualLocalTime
kept_of words = record { 0 = get_or words 0 0 }

abbrev pub record_by : (given state : List ℕ) → Domain
record_by given state = domain_of (settings_of given) (number_of given) state

abbrev pub record_of : List ℕ → (at : ℕ) → Domain
record_of words at = record_by (part_of (settings_at at) 11 words) (part_of (state_at at) 11 words)

-- ---- The words with the part of a record's state that a call changes: a slave's frame, a set, a main cycle and a
-- confirmation.
abbrev pub frame_put : List ℕ → (at : ℕ) → Domain → List ℕ
frame_put words at d = with_part (state_at at) 8 words (take 8 (state_words d))

abbrev pub base_put : List ℕ → (at : ℕ) → Domain → List ℕ
base_put words at d = with_part (state_at at + 4) 3 words (take 3 (drop 4 (state_words d)))

abbrev pub sent_put : List ℕ → (at : ℕ) → Domain → List ℕ
sent_put words at d = with_part (state_at at + 8) 3 words (drop 8 (state_words d))
