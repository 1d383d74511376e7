-- The node that is made of settings in words is that of `new_of`, and so is the number. No contract cites this file.
--   judged_number    0 where they are taken, else 14
--   judged_words     the words
-- Assumes nothing.
use Rattle.std.specs.Prelude.{Err, Ok, ⊤}
use Prim.Native.Nat.{ℕ}
use mathlib.Core.Path.{◌≡◌, refl, ap, ◌∙◌}
use mathlib.Core.Bool.{Bool, true, false, cond}
use mathlib.Core.List.{List}
use Rattle.refusal.specs.declared.Refusal.TheVariants.{Settings}
use Rattle.node.specs.New.{new_as, new_of}
use Rattle.node_words.specs.Node.{node_words}
use Rattle.words_new.specs.New.{node_given}
use Rattle.words_new.specs.Made.{is_taken, made_node}
use Rattle.refusal.specs.Numbers.{Outcome, outcome_number}

abbrev verdict_by : (taken : Bool) → Outcome ⊤
verdict_by taken = cond taken (Ok tt) (Err Settings)

module _ (given : List ℕ) where
  number_by : (taken : Bool) → cond taken 0 14 ≡ outcome_number (new_as (verdict_by taken) (node_given given)).answer
  number_by true = refl
  number_by false = refl

  words_by :
      (taken : Bool) →
      node_words (made_node taken given) ≡ node_words (new_as (verdict_by taken) (node_given given)).node
  words_by true = refl
  words_by false = refl

  pub judged_number :
      (taken : Bool) → taken ≡ is_taken given → cond taken 0 14 ≡ outcome_number (new_of (node_given given)).answer
  judged_number taken e =
      number_by taken ∙ ap (λ (t : Bool). outcome_number (new_as (verdict_by t) (node_given given)).answer) e

  pub judged_words :
      (taken : Bool) → taken ≡ is_taken given →
      node_words (made_node taken given) ≡ node_words (new_of (node_given given)).node
  judged_words taken e =
      words_by taken ∙ ap (λ (t : Bool). node_words (new_as (verdict_by t) (node_given given)).node) e
