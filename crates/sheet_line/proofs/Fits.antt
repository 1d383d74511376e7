-- How many bytes the lines of the sheet have at most, so that a buffer of 65,536 bytes takes them whole. No contract
-- cites this file.
--   line_fits    a line has at most 234
--   sheet_fits   the sheet, 16 lines and the closing one, at most 3,771
-- Assumes nothing.
use Prim.Native.Nat.{ℕ, zero, suc, ◌*◌, ◌≤◌}
use mathlib.Core.List.{List, [], ◌∷◌, ◌++◌}
use native.Mathlib.Nat.{le_refl}
use native.Mathlib.Omega.{arith}
use lib.IntN.{ℤ, pos, negsuc}
use lib.ListN.{length}
use Rattle.std.specs.Prelude.{Option, Some, None}
use Rattle.text.specs.Text.{decimal}
use Rattle.text.specs.Lines.{blank, newline}
use Rattle.text.proofs.Lengths.{decimal_length, append_fits}
use Rattle.settings.specs.declared.domain_settings.Role.{Role}
use Rattle.settings.specs.declared.domain_settings.Role.TheVariants.{Absent, Slave, Master}
use Rattle.settings.specs.Node.{places}
use Rattle.domain.specs.Records.{record_at}
use Rattle.node.specs.declared.Node.{Node}
use Rattle.sheet_sum.specs.declared.Sum.{Sum}
use Rattle.sheet_sum.specs.declared.Told.{Told}
use Rattle.sheet_sum.specs.declared.Told.TheVariants.{Plus, Minus}
use Rattle.sheet_sum.specs.Sum.{sum_of, told_of}
use Rattle.sheet_tally.specs.declared.spread.Spread.{Spread}
use Rattle.sheet_tally.specs.declared.Tally.{Tally}
use Rattle.sheet_tally.specs.declared.sheet.Sheet.{Sheet}
use Rattle.sheet_tally.specs.Sheet.{tally_at}
use Rattle.sheet_line.specs.Signed.{plain_text, minus_text, signed_text, told_text}
use Rattle.sheet_line.specs.Line.{
  counts_text,
  spread_text,
  line_text,
  other_text,
  domain_text,
  slaves_text,
  sheet_text,
}

-- ---- a number: a blank, a sign, 20 digits

plain_fits : (n : ℕ) → length (plain_text n) ≤ 21
plain_fits n = append_fits blank (decimal n) (le_refl 1) (decimal_length n)

minus_fits : (m : ℕ) → length (minus_text m) ≤ 22
minus_fits m = append_fits (32 ∷ 45 ∷ []) (decimal m) (le_refl 2) (decimal_length m)

signed_fits : (d : ℤ) → length (signed_text d) ≤ 22
signed_fits (pos m) = omega (arith, plain_fits m)
signed_fits (negsuc m) = minus_fits (suc m)

told_fits : (told : Option Told) → length (told_text told) ≤ 22
told_fits (Some (Plus m)) = omega (arith, plain_fits m)
told_fits (Some (Minus m)) = minus_fits m
told_fits None = omega arith

-- ---- a line

counts_fit : (counts : List ℕ) → length (counts_text counts) ≤ length counts * 21
counts_fit [] = omega arith
counts_fit (n ∷ rest) = omega (arith, append_fits (plain_text n) (counts_text rest) (plain_fits n) (counts_fit rest))

spread_fits : (spread : Option Spread) (sum : Sum) → length (spread_text spread sum) ≤ 66
spread_fits None sum = omega arith
spread_fits (Some s) sum =
    append_fits (signed_text s.least ++ signed_text s.greatest) (told_text (told_of (sum_of sum)))
    (append_fits (signed_text s.least) (signed_text s.greatest) (signed_fits s.least) (signed_fits s.greatest))
    (told_fits (told_of (sum_of sum)))

pub line_fits : (domain : ℕ) (t : Tally) → length t.counts ≤ 7 → length (line_text domain t) ≤ 234
line_fits domain t h =
    let counts : length (counts_text t.counts) ≤ 147 = omega (arith, counts_fit t.counts) in
    append_fits (decimal domain ++ counts_text t.counts ++ spread_text t.spread t.sum) newline
    (append_fits (decimal domain ++ counts_text t.counts) (spread_text t.spread t.sum)
    (append_fits (decimal domain) (counts_text t.counts) (decimal_length domain) counts)
    (spread_fits t.spread t.sum))
    (le_refl 1)

-- ---- the sheet

domain_fits :
    (domain : ℕ) (role : Role) (t : Tally) → length t.counts ≤ 7 → length (domain_text domain role t) ≤ 234
domain_fits domain Absent t h = omega (arith, line_fits domain t h)
domain_fits domain Slave t h = line_fits domain t h
domain_fits domain Master t h = omega (arith, line_fits domain t h)

other_fits : (n : ℕ) → length (other_text n) ≤ 27
other_fits n =
    append_fits ((111 ∷ 116 ∷ 104 ∷ 101 ∷ 114 ∷ []) ++ plain_text n) newline
    (append_fits (111 ∷ 116 ∷ 104 ∷ 101 ∷ 114 ∷ []) (plain_text n) (le_refl 5) (plain_fits n))
    (le_refl 1)

module _ (n : Node) (s : Sheet) (few : (i : ℕ) → length (tally_at s.tallies i).counts ≤ 7) where
  slaves_fit : (k from : ℕ) → length (slaves_text k from n s) ≤ k * 234
  slaves_fit zero from = omega arith
  slaves_fit (suc k) from =
      let role = (record_at n.domains from).settings.role in
      let tally = tally_at s.tallies from in
      omega (
        arith,
        append_fits (domain_text from role tally) (slaves_text k (suc from) n s) (domain_fits from role tally (few from))
            (slaves_fit k (suc from)),
      )

  pub sheet_fits : length (sheet_text n s) ≤ 3771
  sheet_fits =
      append_fits (slaves_text places 0 n s) (other_text s.other) (slaves_fit places 0) (other_fits s.other)
