-- A loop over k values of a function: what is left of them at d. No contract cites this file.
--   left_more    the one at d, and what is left behind it
--   left_none    in the end nothing
--   good_stop    one that is not good decides
--   good_on      a good one leaves it to the others
--   words_on     a record stored, and the words of those that are left
--   words_all    in the end those of all records
-- Assumes nothing.
use Prim.Native.Nat.{ℕ, suc, ◌+◌, ◌-◌, ◌≤◌, ◌<◌}
use mathlib.Core.Path.{◌≡◌, sym, ap, ◌∙◌}
use mathlib.Core.Bool.{Bool, true, false, ◌&&◌}
use mathlib.Core.List.{List, [], ◌∷◌, ◌++◌, append_assoc, append-nil}
use native.Mathlib.Numerals.{add-one}
use native.Mathlib.Omega.{arith}
use lib.ListN.{length, take, drop, length-append}
use lib.Seq.{length-take-le, take_at, take_all}
use Rattle.settings.specs.declared.domain_settings.DomainSettings.{DomainSettings}
use Rattle.settings.specs.Ranges.{is_good}
use Rattle.settings.specs.Node.{all_good}
use Rattle.domain.specs.Fresh.{fresh_of}
use Rattle.node.specs.New.{records_of}
use Rattle.node_words.specs.Words.{settings_at, with_part}
use Rattle.node_words.specs.Node.{list_by, record_words, records_words}

abbrev pub left : {A : Type 0} → (k : ℕ) → (ℕ → A) → (d : ℕ) → List A
left k f d = list_by (k - d) f d

module _ {A : Type 0} (k : ℕ) (f : ℕ → A) (d : ℕ) where
  pub left_more : d < k → left k f d ≡ f d ∷ left k f (d + 1)
  left_more h =
      let more : k - d ≡ suc (k - (d + 1)) = omega arith in
      ap (λ (n : ℕ). list_by n f d) more
      ∙ ap (λ (at : ℕ). f d ∷ list_by (k - (d + 1)) f at) (sym (add-one d))

  pub left_none : k ≤ d → left k f d ≡ []
  left_none h =
      let none : k - d ≡ 0 = omega arith in
      ap (λ (n : ℕ). list_by n f d) none

module _ (k : ℕ) (f : ℕ → DomainSettings) (d : ℕ) (r all : Bool) (more : d < k) (e : r ≡ is_good (f d))
    (before : all_good (left k f d) ≡ all) where
  as_left : (r && all_good (left k f (d + 1))) ≡ all
  as_left =
      ap (λ (b : Bool). b && all_good (left k f (d + 1))) e ∙ sym (ap all_good (left_more k f d more)) ∙ before

  pub good_stop : r ≡ false → false ≡ all
  good_stop bad = sym (ap (λ (b : Bool). b && all_good (left k f (d + 1))) bad) ∙ as_left

  pub good_on : r ≡ true → all_good (left k f (d + 1)) ≡ all
  good_on good = sym (ap (λ (b : Bool). b && all_good (left k f (d + 1))) good) ∙ as_left

-- ---- the words of the records that are left
abbrev pub left_words : (k : ℕ) → (ℕ → DomainSettings) → (d : ℕ) → List ℕ
left_words k f d = records_words (records_of d (left k f d))

module _ (k : ℕ) (f : ℕ → DomainSettings) (d : ℕ) (node all : List ℕ)
    (before : take (settings_at d) node ++ left_words k f d ≡ all) where
  pub words_on :
      (part : List ℕ) → d < k → settings_at d ≤ length node → part ≡ record_words (fresh_of d (f d)) →
      take (settings_at (d + 1)) (with_part (settings_at d) 22 node part) ++ left_words k f (d + 1) ≡ all
  words_on part more there e =
      let passed = take (settings_at d) node in
      let rest = drop 22 (drop (settings_at d) node) in
      let next = left_words k f (d + 1) in
      let size : length part ≡ 22 = ap length e in
      let filled : length (passed ++ part) ≡ settings_at (d + 1) =
      length-append passed part ∙ omega (arith, length-take-le (settings_at d) node there) in
      ap (λ (l : List ℕ). take (settings_at (d + 1)) l ++ next) (sym (append_assoc passed part rest))
      ∙ ap (λ (l : List ℕ). l ++ next) (take_at (passed ++ part) rest (settings_at (d + 1)) filled)
      ∙ append_assoc passed part next
      ∙ ap (λ (l : List ℕ). passed ++ (l ++ next)) e
      ∙ sym (ap (λ (l : List DomainSettings). passed ++ records_words (records_of d l)) (left_more k f d more))
      ∙ before

  pub words_all : k ≤ d → length node ≤ settings_at d → node ≡ all
  words_all done full =
      let passed = take (settings_at d) node in
      sym (take_all (settings_at d) node full)
      ∙ sym (append-nil passed)
      ∙ sym (ap (λ (l : List DomainSettings). passed ++ records_words (records_of d l)) (left_none k f d done))
      ∙ before
