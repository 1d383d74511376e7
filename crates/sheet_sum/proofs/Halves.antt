-- Laws of the two halves of a number of 128 bits, as a machine of 64 keeps them: they speak of what `plus` answers by
-- `more_halves`, and of what `told` tells by `told_halves` of `Sums`. No contract cites this file.
--   as_wide        two numbers of 64 bits that make n are n's
--   wide_value     and n is what they make
--   more_plain, more_carried, more_held        so much more, in its three cases
--   more_halves                                and what `plus` answers has the halves that these say
--   gap_none, gap_plain, gap_even, gap_borrowed   what a number is more than another, in its four
--   gap_halves, gap_value                      and a gap that `told` goes by has, and is, what these say
--   no_high, some_high                         a number without a high half, and with one
-- Assumes nothing.
use Prim.Native.Nat.{ℕ, ◌+◌, ◌-◌, ◌*◌, ◌/◌, ◌%◌, ◌^◌, ◌≤◌, ◌<◌}
use mathlib.Core.Path.{◌≡◌, sym, ap, ◌∙◌}
use native.Mathlib.Nat.{lt_of_lt_of_le, le_trans, mul-le-mul_right}
use native.Mathlib.Omega.{arith}
use Rattle.sheet_sum.specs.Wide.{more_of}

pub record Wide : Type 0 where
  pub high : ℕ
  pub low : ℕ

abbrev pub value_of : Wide → ℕ
value_of w = w.high * 2 ^ 64 + w.low

abbrev pub wide_of : ℕ → Wide
wide_of n = record { high = n / 2 ^ 64; low = n % 2 ^ 64 }

abbrev pub last_halves : Wide
last_halves = record { high = 2 ^ 64 - 1; low = 2 ^ 64 - 1 }

abbrev pub halves_more : Wide → ℕ → Wide
halves_more w more = wide_of (more_of (value_of w) more)

abbrev pub gap_of : (a b : Wide) → Wide
gap_of a b = wide_of (value_of a - value_of b)

pub as_wide : (high low n : ℕ) → low < 2 ^ 64 → n ≡ high * 2 ^ 64 + low → record { high = high; low = low } ≡ wide_of n
as_wide high low n fits e =
    let up : high ≡ n / 2 ^ 64 = omega arith in
    let down : low ≡ n % 2 ^ 64 = omega arith in
    λ i. record { high = up i; low = down i }

pub wide_value : (n : ℕ) → value_of (wide_of n) ≡ n
wide_value n = omega arith

-- ---- so much more

in_128 : (n high : ℕ) → n < high * 2 ^ 64 → high ≤ 2 ^ 64 → n < 2 ^ 128
in_128 n high h k = lt_of_lt_of_le h (mul-le-mul_right (2 ^ 64) k)

pub more_plain :
    (w : Wide) (more : ℕ) → w.high < 2 ^ 64 → w.low + more < 2 ^ 64 →
    record { high = w.high; low = w.low + more } ≡ halves_more w more
more_plain w more h l =
    let below : value_of w + more < 2 ^ 128 = in_128 (value_of w + more) (w.high + 1) (omega arith) (omega arith) in
    as_wide w.high (w.low + more) (more_of (value_of w) more) l (omega arith)

pub more_carried :
    (w : Wide) (more : ℕ) → w.high + 1 < 2 ^ 64 → w.low < 2 ^ 64 → more < 2 ^ 64 → 2 ^ 64 ≤ w.low + more →
    record { high = w.high + 1; low = more - (2 ^ 64 - 1 - w.low) - 1 } ≡ halves_more w more
more_carried w more h l m over =
    let below : value_of w + more < 2 ^ 128 = in_128 (value_of w + more) (w.high + 2) (omega arith) (omega arith) in
    as_wide (w.high + 1) (more - (2 ^ 64 - 1 - w.low) - 1) (more_of (value_of w) more) (omega arith) (omega arith)

pub more_held :
    (w : Wide) (more : ℕ) → 2 ^ 64 ≤ w.high + 1 → 2 ^ 64 ≤ w.low + more → last_halves ≡ halves_more w more
more_held w more h over =
    let beyond : (w.high + 1) * 2 ^ 64 ≤ value_of w + more = omega arith in
    let last : 2 ^ 64 * 2 ^ 64 ≤ value_of w + more = le_trans (mul-le-mul_right (2 ^ 64) h) beyond in
    as_wide (2 ^ 64 - 1) (2 ^ 64 - 1) (more_of (value_of w) more) (omega arith) (omega arith)

-- the halves of what `plus` answers
pub more_halves : (n more : ℕ) → wide_of (more_of n more) ≡ halves_more (wide_of n) more
more_halves n more = ap (λ (k : ℕ). wide_of (more_of k more)) (sym (wide_value n))

-- ---- what a is more than b

pub gap_none : (a b : Wide) → a.high < b.high → a.low < 2 ^ 64 → record { high = 0; low = 0 } ≡ gap_of a b
gap_none a b h l = as_wide 0 0 (value_of a - value_of b) (omega arith) (omega arith)

pub gap_plain :
    (a b : Wide) → b.high ≤ a.high → b.low ≤ a.low → a.low < 2 ^ 64 →
    record { high = a.high - b.high; low = a.low - b.low } ≡ gap_of a b
gap_plain a b h l fits =
    as_wide (a.high - b.high) (a.low - b.low) (value_of a - value_of b) (omega arith) (omega arith)

pub gap_even : (a b : Wide) → a.high - b.high ≡ 0 → a.low < b.low → record { high = 0; low = 0 } ≡ gap_of a b
gap_even a b e l = as_wide 0 0 (value_of a - value_of b) (omega arith) (omega arith)

pub gap_borrowed :
    (a b : Wide) → b.high < a.high → a.low < b.low → b.low < 2 ^ 64 →
    record { high = a.high - b.high - 1; low = 2 ^ 64 - 1 - (b.low - a.low - 1) } ≡ gap_of a b
gap_borrowed a b h l fits =
    as_wide (a.high - b.high - 1) (2 ^ 64 - 1 - (b.low - a.low - 1)) (value_of a - value_of b) (omega arith)
    (omega arith)

-- the halves of the gaps by which `told` goes, and the gaps
pub gap_halves : (a b : ℕ) → wide_of (a - b) ≡ gap_of (wide_of a) (wide_of b)
gap_halves a b = let more = sym (wide_value a) in let less = sym (wide_value b) in λ i. wide_of (more i - less i)

pub gap_value : (a b : ℕ) → value_of (gap_of (wide_of a) (wide_of b)) ≡ a - b
gap_value a b = ap value_of (sym (gap_halves a b)) ∙ wide_value (a - b)

-- ---- the high half

pub no_high : (w : Wide) → w.high ≡ 0 → value_of w ≡ w.low
no_high w h = omega arith

pub some_high : (w : Wide) → 0 < w.high → 2 ^ 64 ≤ value_of w
some_high w h = omega arith
