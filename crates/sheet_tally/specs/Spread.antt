-- Paper 02, request 13: "least and greatest D". Assumes nothing.
use Rattle.std.specs.Prelude.{cond, ℤ, Option, Some, None}
use Rattle.std.specs.Int.Signed.{lt_z}
use Rattle.sheet_tally.specs.declared.spread.Spread.{Spread}

abbrev pub lesser : ℤ → ℤ → ℤ
lesser a b = cond (lt_z a b) a b

abbrev pub greater : ℤ → ℤ → ℤ
greater a b = cond (lt_z b a) a b

-- ---- `None` is the spread of no D.
abbrev pub spread_with : Option Spread → ℤ → Spread
spread_with None d = record { least = d; greatest = d }
spread_with (Some s) d = record { least = lesser d s.least; greatest = greater d s.greatest }
