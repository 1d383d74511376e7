-- Text in a lent buffer: bytes one after another from a place on. Assumes nothing.
use Rattle.std.specs.Prelude.{ℕ, zero, suc, ◌+◌, ◌/◌, ◌%◌, ◌^◌, ◌≡◌, cond, List, [], ◌∷◌, ◌++◌, ltb, length, set}
use Rattle.text.specs.declared.Out.{Out}

-- ---- A buffer, and the place in it where the next byte goes.
pub record Text : Type 0 where
  pub at : ℕ
  pub bytes : List ℕ

-- ---- A byte goes to the place, and the place moves on by one; where the buffer ends, nothing happens.
abbrev pub put : ℕ → Text → Text
put x t =
    cond (ltb t.at (length t.bytes))
    (record { at = t.at + 1; bytes = set t.bytes t.at x })
    t

unfoldable pub puts : List ℕ → Text → Text
puts [] t = t
puts (x ∷ xs) t = puts xs (put x t)

-- ---- The promise of all that writes: the new place, and every lent byte.
pub record Puts (xs : List ℕ) (at : ℕ) (before : List ℕ) (r : ℕ) (after : List ℕ) : Type 0 where
  pub text : record { at = r; bytes = after } ≡ puts xs (record { at = at; bytes = before })

-- ---- The same of `Out`: it holds the buffer that it held.
pub record Wrote (xs : List ℕ) (before after : Out) : Type 0 where
  pub same_buffer : after.bytes.ghost_name ≡ before.bytes.ghost_name
  pub text : Puts xs before.at before.bytes.now after.at after.bytes.now

-- ---- "Hex is upper case."
abbrev pub hex_digit : ℕ → ℕ
hex_digit d = cond (ltb d 10) (48 + d) (55 + d)

abbrev pub hex_byte : ℕ → List ℕ
hex_byte b = hex_digit (b / 16) ∷ hex_digit (b % 16) ∷ []

abbrev pub hex_of : List ℕ → List ℕ
hex_of [] = []
hex_of (b ∷ bs) = hex_byte b ++ hex_of bs

-- ---- The last k decimal digits of n.
unfoldable pub digits : (k n : ℕ) → List ℕ
digits zero n = []
digits (suc k) n = (48 + n / 10 ^ k % 10) ∷ digits k n

-- ---- A number in decimal digits, at most so many: those of n / 10, where it has any, and then the last.
unfoldable pub spelled : (most n : ℕ) → List ℕ
spelled zero n = []
spelled (suc most) n = cond (ltb n 10) [] (spelled most (n / 10)) ++ ((48 + n % 10) ∷ [])

-- ---- A number of 64 bits in decimal digits: it has at most 20.
abbrev pub decimal : ℕ → List ℕ
decimal n = spelled 20 n
