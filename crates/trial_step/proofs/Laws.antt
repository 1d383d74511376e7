-- Laws of the trial's steps. No contract cites this file.
--   lent_least   at most 512 bytes are lent
--   lent_count   the first bytes of the buffer of A5s, which are lent, are so many
--   lent_is      and A5s
--   shown_room   there are as many once they are back, whatever they hold then
--   shown_is     and those are what the call left
--   numbered     a line that has the number alone, and the node beside it
-- Assumes nothing.
use Prim.Native.Nat.{ℕ, ◌≤◌, min}
use mathlib.Core.Path.{◌≡◌, refl, sym, ap, ◌∙◌}
use mathlib.Core.Bool.{true}
use mathlib.Core.List.{List, ◌++◌}
use native.Mathlib.Nat.{min-le_right}
use native.Mathlib.Omega.{arith}
use lib.ListN.{length, take, drop, replicate, length-append}
use lib.Seq.{length-take-le, take_at}
use Rattle.promise.proofs.Lists.{take_replicate}
use Rattle.text.specs.declared.Out.{Out}
use Rattle.text.specs.Text.{Wrote}
use Rattle.text.specs.Lines.{newline, answer_text}
use Rattle.text.proofs.Wrote.{named}
use Rattle.node.specs.declared.Node.{Node}
use Rattle.trial_step.specs.TrialLine.{Numbered}

abbrev pub buffer : List ℕ
buffer = replicate 512 0xA5

pub lent_least : (n : ℕ) {k : ℕ} → k ≡ min n 512 → k ≤ 512
lent_least n e = omega (arith, min-le_right n 512)

module _ (k : ℕ) (most : k ≤ 512) where
  pub lent_count : k ≡ length (take k buffer)
  lent_count = sym (length-take-le k buffer most)

  pub lent_is : take k buffer ≡ replicate k 0xA5
  lent_is = take_replicate k 512 0xA5 most

  module _ (left : List ℕ) (long : length left ≡ length (take k buffer)) where
    pub shown_room : k ≤ length (left ++ drop k buffer)
    shown_room = omega (arith, length-append left (drop k buffer), lent_count)

    pub shown_is : take k (left ++ drop k buffer) ≡ left
    shown_is = take_at left (drop k buffer) k (long ∙ sym lent_count)

pub numbered :
    {n m : Node} (item : ℕ) {number k : ℕ} {before after : Out} →
    n ≡ m → k ≡ number → Wrote (answer_text item k ++ newline) before after →
    Numbered m number item before (record { node = n; goes_on = true }) after
numbered item e f p =
    record { node = e; goes_on = refl; line = named (ap (λ (k : ℕ). answer_text item k ++ newline) f) p }
