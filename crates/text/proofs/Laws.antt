-- Laws of text in a lent buffer. Assumes nothing.
use Prim.Native.Nat.{ℕ, suc, ◌+◌, ◌<◌}
use mathlib.Core.Path.{◌≡◌, refl, sym, ap, ◌∙◌}
use mathlib.Core.Bool.{Bool, true, false, cond}
use mathlib.Core.List.{List, [], ◌∷◌, ◌++◌}
use lib.Dec.{ltb}
use lib.ListN.{length, get_or, set, drop, length-set}
use lib.Seq.{drop-cons}
use Rattle.text.specs.Text.{Text, put, puts, Puts, hex_byte, hex_of}

-- ---- One text after another.

pub puts_append : (xs ys : List ℕ) (t : Text) → puts (xs ++ ys) t ≡ puts ys (puts xs t)
unfolding puts
puts_append [] ys t = refl
puts_append (x ∷ xs) ys t = puts_append xs ys (put x t)

pub then :
    {xs ys before middle after : List ℕ} {at place r : ℕ} →
    Puts xs at before place middle → Puts ys place middle r after → Puts (xs ++ ys) at before r after
then {xs} {ys} e f = record { text = f.text ∙ ap (puts ys) e.text ∙ sym (puts_append xs ys _) }

-- nothing to write
pub nothing : {before : List ℕ} {at : ℕ} → Puts [] at before at before
unfolding puts
nothing = record { text = refl }

-- ---- No byte is added or lost.

put_length : (x : ℕ) (t : Text) → length (put x t).bytes ≡ length t.bytes
put_length x t = go (ltb t.at (length t.bytes))
  where
    go :
        (b : Bool) →
        length (cond b (record { at = t.at + 1; bytes = set t.bytes t.at x }) t).bytes ≡ length t.bytes
    go true = length-set t.bytes t.at x
    go false = refl

puts_length : (xs : List ℕ) (t : Text) → length (puts xs t).bytes ≡ length t.bytes
unfolding puts
puts_length [] t = refl
puts_length (x ∷ xs) t = puts_length xs (put x t) ∙ put_length x t

pub length_kept :
    {xs before after : List ℕ} {at r : ℕ} → Puts xs at before r after → length after ≡ length before
length_kept {xs} e = ap (λ u. length u.bytes) e.text ∙ puts_length xs _

-- ---- The bytes from i on, in hexadecimal digits.
pub hex_cons :
    (bytes : List ℕ) (i : ℕ) → i < length bytes →
    hex_of (drop i bytes) ≡ hex_byte (get_or bytes i 0) ++ hex_of (drop (suc i) bytes)
hex_cons bytes i h = ap hex_of (drop-cons bytes i 0 h)
