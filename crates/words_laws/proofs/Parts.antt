-- Parts of words after others were stored, and lists by a function. No contract cites this file.
--   part_before, part_behind   a part before the stored one, and one behind it, is as it was
--   part_within                a part around the stored one has it stored
--   one_before                 an element before the stored part is as it was
--   length_stored              so is the length
--   by_at                      an element of a list by a function
--   by_same                    two functions with the same values give one list
--   by_set                     and with one other value, the list with that one set
-- Assumes nothing.
use Prim.Native.Nat.{ℕ, zero, suc, ◌+◌, ◌-◌, ◌≤◌, ◌<◌}
use mathlib.Core.Path.{◌≡◌, refl, sym, ap, ◌∙◌}
use mathlib.Core.List.{List, [], ◌∷◌, ◌++◌}
use native.Mathlib.Omega.{arith}
use lib.ListN.{length, get_or, set, take, drop, length-append, length-drop, take-append-drop, get_or-append}
use lib.Seq.{
  length-take-le,
  take-nil,
  take-append-le,
  take-append-add,
  drop-append-le,
  drop_at,
  drop-drop,
  get_or-take,
}
use Rattle.node_words.specs.Words.{part_of, with_part}
use Rattle.node_words.specs.Node.{list_by}

-- ---- before

front :
    (from a k : ℕ) (words more : List ℕ) → from ≤ length words → a + k ≤ from →
    part_of a k (take from words ++ more) ≡ part_of a k (take from words)
front from a k words more h le =
    let l : length (take from words) ≡ from = length-take-le from words h in
    ap (take k) (drop-append-le a (take from words) more (omega arith))
    ∙ take-append-le k (drop a (take from words)) more (omega (arith, length-drop a (take from words)))

pub part_before :
    (from n a k : ℕ) (words part : List ℕ) → from ≤ length words → a + k ≤ from →
    part_of a k (with_part from n words part) ≡ part_of a k words
part_before from n a k words part h le =
    front from a k words (part ++ drop n (drop from words)) h le
    ∙ sym (front from a k words (drop from words) h le)
    ∙ ap (part_of a k) (take-append-drop from words)

pub one_before :
    (from n i : ℕ) (words part : List ℕ) → from ≤ length words → i < from →
    get_or (with_part from n words part) i 0 ≡ get_or words i 0
one_before from n i words part h lt =
    let l : length (take from words) ≡ from = length-take-le from words h in
    get_or-append (take from words) (part ++ drop n (drop from words)) 0 i (omega arith)
    ∙ get_or-take from words i 0 lt

-- ---- behind

pub part_behind :
    (from n a k : ℕ) (words part : List ℕ) → from ≤ length words → length part ≡ n → from + n ≤ a →
    part_of a k (with_part from n words part) ≡ part_of a k words
part_behind from n a k words part h e le =
    let all : from + n + (a - (from + n)) ≡ a = omega arith in
    let stored = with_part from n words part in
    let past : drop (from + n) stored ≡ drop (from + n) words =
    sym (drop-drop n from stored)
    ∙ ap (drop n) (drop_at (take from words) (part ++ drop n (drop from words)) from (length-take-le from words h))
    ∙ drop_at part (drop n (drop from words)) n e
    ∙ drop-drop n from words in
    let at : (l : List ℕ) → drop (a - (from + n)) (drop (from + n) l) ≡ drop a l =
    λ l. drop-drop (a - (from + n)) (from + n) l ∙ ap (λ (i : ℕ). drop i l) all in
    ap (take k) (sym (at stored) ∙ ap (drop (a - (from + n))) past ∙ at words)

-- ---- around

drop_take : (n m k : ℕ) (l : List ℕ) → n + m ≡ k → drop n (take k l) ≡ take m (drop n l)
drop_take zero m k l e =
    let same : k ≡ m = omega arith in
    ap (λ (i : ℕ). take i l) same
drop_take (suc n) m zero l e = absurd (omega arith)
drop_take (suc n) m (suc k) [] e = sym (take-nil m)
drop_take (suc n) m (suc k) (x ∷ xs) e = drop_take n m k xs (omega arith)

take_front :
    (n k : ℕ) (words part : List ℕ) → length part ≡ n → n ≤ k →
    take k (part ++ drop n words) ≡ part ++ drop n (take k words)
take_front n k words part e le =
    let all : k ≡ length part + (k - n) = omega arith in
    ap (λ (i : ℕ). take i (part ++ drop n words)) all
    ∙ take-append-add part (drop n words) (k - n)
    ∙ ap (λ (l : List ℕ). part ++ l) (sym (drop_take n (k - n) k words (omega arith)))

take_within :
    (j n k : ℕ) (words part : List ℕ) → j ≤ length words → length part ≡ n → j + n ≤ k →
    take k (with_part j n words part) ≡ with_part j n (take k words) part
take_within zero n k words part h e le = take_front n k words part e (omega arith)
take_within (suc j) n zero words part h e le = absurd (omega arith)
take_within (suc j) n (suc k) [] part h e le = absurd (omega arith)
take_within (suc j) n (suc k) (x ∷ xs) part h e le =
    ap (λ (l : List ℕ). x ∷ l) (take_within j n k xs part (omega arith) e (omega arith))

pub part_within :
    (a j from n k : ℕ) (words part : List ℕ) → from ≡ a + j → from ≤ length words → length part ≡ n → j + n ≤ k →
    part_of a k (with_part from n words part) ≡ with_part j n (part_of a k words) part
part_within zero j from n k words part q h e le =
    let same : from ≡ j = omega arith in
    ap (λ (i : ℕ). take k (with_part i n words part)) same ∙ take_within j n k words part (omega arith) e le
part_within (suc a) j zero n k words part q h e le = absurd (omega arith)
part_within (suc a) j (suc from) n k [] part q h e le = absurd (omega arith)
part_within (suc a) j (suc from) n k (x ∷ xs) part q h e le =
    part_within a j from n k xs part (omega arith) (omega arith) e le

-- ---- the length

pub length_part : (a k : ℕ) (words : List ℕ) → a + k ≤ length words → length (part_of a k words) ≡ k
length_part a k words h = length-take-le k (drop a words) (omega (arith, length-drop a words))

pub length_stored :
    (from n : ℕ) (words part : List ℕ) → from + n ≤ length words → length part ≡ n →
    length (with_part from n words part) ≡ length words
length_stored from n words part h e =
    let behind = drop n (drop from words) in
    omega (
      arith,
      length-append (take from words) (part ++ behind),
      length-append part behind,
      length-take-le from words (omega arith),
      length-drop n (drop from words),
      length-drop from words,
    )

-- ---- lists by a function

module _ {A : Type 0} where
  pub by_at :
      (k : ℕ) (f : ℕ → A) (a i at : ℕ) (other : A) → i < k → a + i ≡ at → get_or (list_by k f a) i other ≡ f at
  by_at zero f a i at other h e = absurd (omega arith)
  by_at (suc k) f a zero at other h e =
      let here : a ≡ at = omega arith in
      ap f here
  by_at (suc k) f a (suc i) at other h e = by_at k f (suc a) i at other (omega arith) (omega arith)

  pub by_same :
      (k : ℕ) (f g : ℕ → A) (a : ℕ) → ((i : ℕ) → a ≤ i → g i ≡ f i) → list_by k g a ≡ list_by k f a
  by_same zero f g a h = refl
  by_same (suc k) f g a h =
      ap (λ (d : A). d ∷ list_by k g (suc a)) (h a (omega arith))
      ∙ ap (λ (l : List A). f a ∷ l) (by_same k f g (suc a) (λ i le. h i (omega arith)))

  pub by_set :
      (k : ℕ) (f g : ℕ → A) (a j at : ℕ) (d : A) → j < k → a + j ≡ at → g at ≡ d →
      ((i : ℕ) → (i ≡ at → ⊥) → g i ≡ f i) → list_by k g a ≡ set (list_by k f a) j d
  by_set zero f g a j at d h e here others = absurd (omega arith)
  by_set (suc k) f g a zero at d h e here others =
      let is : a ≡ at = omega arith in
      ap (λ (x : A). x ∷ list_by k g (suc a)) (ap g is ∙ here)
      ∙ ap (λ (l : List A). d ∷ l) (by_same k f g (suc a) (λ i le. others i (λ q. omega arith)))
  by_set (suc k) f g a (suc j) at d h e here others =
      ap (λ (x : A). x ∷ list_by k g (suc a)) (others a (λ q. omega arith))
      ∙ ap (λ (l : List A). f a ∷ l) (by_set k f g (suc a) j at d (omega arith) (omega arith) here others)
