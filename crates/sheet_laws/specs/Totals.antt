-- Paper 02, request 13: "the counts add up to the whole records read". Assumes nothing.
use Rattle.std.specs.Prelude.{ℕ, zero, suc, ◌+◌, List, [], ◌∷◌}
use Rattle.settings.specs.declared.domain_settings.Role.{Role}
use Rattle.settings.specs.declared.domain_settings.Role.TheVariants.{Absent, Slave, Master}
use Rattle.settings.specs.Node.{places}
use Rattle.domain.specs.Records.{record_at}
use Rattle.node.specs.declared.Node.{Node}
use Rattle.sheet_tally.specs.declared.Tally.{Tally}
use Rattle.sheet_tally.specs.declared.sheet.Sheet.{Sheet}
use Rattle.sheet_tally.specs.Sheet.{tally_at}

-- ---- The sum of a measure over a list.
abbrev pub sum_by : {A : Type 0} → (A → ℕ) → List A → ℕ
sum_by f [] = 0
sum_by f (x ∷ rest) = f x + sum_by f rest

-- ---- The seven counts of a tally.
abbrev pub counts_in : Tally → ℕ
counts_in t = sum_by (λ (n : ℕ). n) t.counts

-- ---- The counts that are printed: of k domains from one on, those of the slaves; and the closing line's.
abbrev pub counts_of : Role → Tally → ℕ
counts_of Absent t = 0
counts_of Slave t = counts_in t
counts_of Master t = 0

abbrev pub lines_count : (k from : ℕ) → Node → Sheet → ℕ
lines_count zero from n s = 0
lines_count (suc k) from n s =
    counts_of (record_at n.domains from).settings.role (tally_at s.tallies from) + lines_count k (suc from) n s

abbrev pub printed_count : Node → Sheet → ℕ
printed_count n s = lines_count places 0 n s + s.other
