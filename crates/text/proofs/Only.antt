-- No two results satisfy the promise of F, as `F_only` for each public function F. A result is the place
-- with the lent bytes that `Out` is left with, and every promise here is `Wrote` of some text: one law, `wrote_only`,
-- of which `puts_only` is the part under `Puts`. No contract cites this file.
-- Assumes nothing.
use Prim.Native.Nat.{ℕ}
use mathlib.Core.Path.{sym, ◌∙◌}
use mathlib.Core.List.{List, [], ◌∷◌}
use Rattle.promise.specs.Only.{OnlyOne}
use Rattle.text.specs.declared.Out.{Out}
use Rattle.text.specs.Text.{Puts, Wrote, hex_byte, hex_of, digits, decimal}

pub puts_only :
    (xs : List ℕ) (at : ℕ) (before : List ℕ) → OnlyOne (λ (r : ℕ × List ℕ). Puts xs at before r.0 r.1)
puts_only xs at before x y p q = let both = p.text ∙ sym q.text in λ i. ((both i).at, (both i).bytes)

-- ---- `Out` with a place and the lent bytes.
abbrev pub left : Out → ℕ × List ℕ → Out
left before r = record before { at = r.0; bytes = record (before.bytes) { now = r.1 } }

pub wrote_only : (xs : List ℕ) (before : Out) → OnlyOne (λ (r : ℕ × List ℕ). Wrote xs before (left before r))
wrote_only xs before x y p q = puts_only xs before.at before.bytes.now x y p.text q.text

pub put_byte_only :
    (byte : ℕ) (before : Out) →
    OnlyOne (λ (r : ℕ × List ℕ). Wrote (byte ∷ []) before (left before r))
put_byte_only byte = wrote_only (byte ∷ [])

pub put_bytes_only :
    (bytes : List ℕ) (before : Out) →
    OnlyOne (λ (r : ℕ × List ℕ). Wrote bytes before (left before r))
put_bytes_only bytes = wrote_only bytes

pub put_hex_byte_only :
    (byte : ℕ) (before : Out) →
    OnlyOne (λ (r : ℕ × List ℕ). Wrote (hex_byte byte) before (left before r))
put_hex_byte_only byte = wrote_only (hex_byte byte)

pub put_hex_only :
    (bytes : List ℕ) (before : Out) →
    OnlyOne (λ (r : ℕ × List ℕ). Wrote (hex_of bytes) before (left before r))
put_hex_only bytes = wrote_only (hex_of bytes)

pub put_nine_digits_only :
    (n : ℕ) (before : Out) →
    OnlyOne (λ (r : ℕ × List ℕ). Wrote (digits 9 n) before (left before r))
put_nine_digits_only n = wrote_only (digits 9 n)

pub put_decimal_only :
    (n : ℕ) (before : Out) →
    OnlyOne (λ (r : ℕ × List ℕ). Wrote (decimal n) before (left before r))
put_decimal_only n = wrote_only (decimal n)
