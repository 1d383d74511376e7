-- Paper 02, request 13: "the exact sum of all D". Assumes nothing.
use Rattle.std.specs.Prelude.{
  ℕ,
  suc,
  ◌-◌,
  ◌^◌,
  ◌<◌,
  cond,
  List,
  [],
  ◌∷◌,
  leb,
  ℤ,
  pos,
  negsuc,
  ◌+ℤ◌,
  Option,
  Some,
  None,
}
use Rattle.std.proofs.Math.IntN.{sub_ℕ}
use Rattle.std.specs.Int.Signed.{mag}
use Rattle.sheet_sum.specs.declared.Sum.{Sum}
use Rattle.sheet_sum.specs.declared.Told.{Told}
use Rattle.sheet_sum.specs.declared.Told.TheVariants.{Plus, Minus}
use Rattle.sheet_sum.specs.Wide.{more_of}

-- ---- The sum of D, as a reader means it.
abbrev pub total : List ℤ → ℤ
total [] = pos 0
total (d ∷ rest) = d +ℤ total rest

-- ---- A number of 64 signed bits, -2^63 to 2^63 - 1, as each D is.
abbrev pub Within64 : ℤ → Type 0
Within64 d = mag d < 2 ^ 63

abbrev pub AllWithin64 : List ℤ → Type 0
AllWithin64 [] = Unit {0}
AllWithin64 (d ∷ rest) = Within64 d × AllWithin64 rest

-- ---- How it is kept: of no D, and with one D more, which goes to one of the two numbers.
abbrev pub no_sum : Sum
no_sum = record { ahead = 0; behind = 0 }

abbrev pub sum_with : Sum → ℤ → Sum
sum_with s (pos m) = record { ahead = more_of s.ahead m; behind = s.behind }
sum_with s (negsuc m) = record { ahead = s.ahead; behind = more_of s.behind (suc m) }

abbrev pub sum_with_all : Sum → List ℤ → Sum
sum_with_all s [] = s
sum_with_all s (d ∷ rest) = sum_with_all (sum_with s d) rest

abbrev pub sum_of : Sum → ℤ
sum_of s = sub_ℕ s.ahead s.behind

-- ---- "A sum outside signed 64 bits prints `over`"; -2^63 is inside.
abbrev pub plus_of : ℕ → Option Told
plus_of m = cond (leb m (2 ^ 63 - 1)) (Some (Plus m)) None

abbrev pub minus_of : ℕ → Option Told
minus_of m = cond (leb m (2 ^ 63)) (Some (Minus m)) None

abbrev pub told_of : ℤ → Option Told
told_of (pos m) = plus_of m
told_of (negsuc m) = minus_of (suc m)
