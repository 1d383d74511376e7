-- Paper 02, request 13: numbers in a line, "fields parted by one blank". Assumes nothing.
use Rattle.std.specs.Prelude.{ℕ, suc, List, [], ◌∷◌, ◌++◌, ℤ, pos, negsuc, Option, Some, None}
use Rattle.text.specs.Text.{decimal}
use Rattle.text.specs.Lines.{blank}
use Rattle.sheet_sum.specs.declared.Told.{Told}
use Rattle.sheet_sum.specs.declared.Told.TheVariants.{Plus, Minus}

abbrev pub plain_text : ℕ → List ℕ
plain_text n = blank ++ decimal n

-- ---- " -", and how far it is below 0
abbrev pub minus_text : ℕ → List ℕ
minus_text m = (32 ∷ 45 ∷ []) ++ decimal m

abbrev pub signed_text : ℤ → List ℕ
signed_text (pos m) = plain_text m
signed_text (negsuc m) = minus_text (suc m)

-- ---- "A sum outside signed 64 bits prints `over`."
abbrev pub told_text : Option Told → List ℕ
told_text (Some (Plus m)) = plain_text m
told_text (Some (Minus m)) = minus_text m
told_text None = 32 ∷ 111 ∷ 118 ∷ 101 ∷ 114 ∷ []
