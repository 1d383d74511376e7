-- Paper 01, "Bench program": the parts of a line. Assumes nothing.
use Rattle.std.specs.Prelude.{ℕ, List, [], ◌∷◌, ◌++◌}
use Rattle.clock.specs.declared.time.GlobalTime.{GlobalTime}
use Rattle.text.specs.Text.{decimal, digits}

-- ---- A blank, a point, the end of a line.
abbrev pub blank : List ℕ
blank = 32 ∷ []

abbrev pub point : List ℕ
point = 46 ∷ []

abbrev pub newline : List ℕ
newline = 10 ∷ []

-- ---- "the record's number from 1 and the answer"
abbrev pub answer_text : (item number : ℕ) → List ℕ
answer_text item number = decimal item ++ blank ++ decimal number

-- ---- "seconds, a point, nine digits"
abbrev pub time_text : GlobalTime → List ℕ
time_text g = decimal g.0 ++ point ++ digits 9 g.1

-- ---- " record "
abbrev pub record_word : List ℕ
record_word = 32 ∷ 114 ∷ 101 ∷ 99 ∷ 111 ∷ 114 ∷ 100 ∷ 32 ∷ []

-- ---- "A wrong mark or kind prints `bad record` and its number"
abbrev pub bad_text : (item : ℕ) → List ℕ
bad_text item = (98 ∷ 97 ∷ 100 ∷ record_word) ++ decimal item ++ newline

-- ---- "a short tail, unread, `cut record` and its number"
abbrev pub cut_text : (item : ℕ) → List ℕ
cut_text item = (99 ∷ 117 ∷ 116 ∷ record_word) ++ decimal item ++ newline
