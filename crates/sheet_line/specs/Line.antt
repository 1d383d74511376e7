-- Paper 02, request 13: the lines of the sheet. Assumes nothing.
use Rattle.std.specs.Prelude.{ℕ, zero, suc, List, [], ◌∷◌, ◌++◌, Option, Some, None}
use Rattle.text.specs.Text.{decimal}
use Rattle.text.specs.Lines.{newline}
use Rattle.settings.specs.declared.domain_settings.Role.{Role}
use Rattle.settings.specs.declared.domain_settings.Role.TheVariants.{Absent, Slave, Master}
use Rattle.settings.specs.Node.{places}
use Rattle.domain.specs.Records.{record_at}
use Rattle.node.specs.declared.Node.{Node}
use Rattle.sheet_sum.specs.declared.Sum.{Sum}
use Rattle.sheet_sum.specs.Sum.{sum_of, told_of}
use Rattle.sheet_tally.specs.declared.spread.Spread.{Spread}
use Rattle.sheet_tally.specs.declared.Tally.{Tally}
use Rattle.sheet_tally.specs.declared.sheet.Sheet.{Sheet}
use Rattle.sheet_tally.specs.Sheet.{tally_at}
use Rattle.sheet_line.specs.Signed.{plain_text, signed_text, told_text}

-- ---- "SYNCs taken, FUPs taken, frames refused under 5 to 9 each"
abbrev pub counts_text : List ℕ → List ℕ
counts_text [] = []
counts_text (n ∷ rest) = plain_text n ++ counts_text rest

-- ---- "least and greatest D, and the exact sum"; "with no D the last three are `-`"
abbrev pub spread_text : Option Spread → Sum → List ℕ
spread_text None sum = 32 ∷ 45 ∷ 32 ∷ 45 ∷ 32 ∷ 45 ∷ []
spread_text (Some s) sum = signed_text s.least ++ signed_text s.greatest ++ told_text (told_of (sum_of sum))

-- ---- "its number" first
abbrev pub line_text : (domain : ℕ) → Tally → List ℕ
line_text domain t = decimal domain ++ counts_text t.counts ++ spread_text t.spread t.sum ++ newline

-- ---- "A closing line has `other` and the count"
abbrev pub other_text : ℕ → List ℕ
other_text n = (111 ∷ 116 ∷ 104 ∷ 101 ∷ 114 ∷ []) ++ plain_text n ++ newline

-- ---- "One line per configured slave, rising domain number": k domains from one on.
abbrev pub domain_text : (domain : ℕ) → Role → Tally → List ℕ
domain_text domain Absent t = []
domain_text domain Slave t = line_text domain t
domain_text domain Master t = []

abbrev pub slaves_text : (k from : ℕ) → Node → Sheet → List ℕ
slaves_text zero from n s = []
slaves_text (suc k) from n s =
    domain_text from (record_at n.domains from).settings.role (tally_at s.tallies from) ++
    slaves_text k (suc from) n s

abbrev pub sheet_text : Node → Sheet → List ℕ
sheet_text n s = slaves_text places 0 n s ++ other_text s.other
