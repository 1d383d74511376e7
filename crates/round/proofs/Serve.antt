-- Records served at some places, for any records, any test and any service: what a service says is said of
-- the record as it stood before all of them, since the places are apart. No contract cites this file.
--   after_length   the records stay as many
--   after_other    a record at no served place stays
--   after_served   a record at a served place is served
--   told_rests     the turn of a record that is not due changes nothing
--   told_serves    the turn of one that is due serves it, and then what is left is told of the records after
-- Assumes nothing.
use Prim.Native.Nat.{ℕ, suc, ◌<◌}
use mathlib.Core.Path.{◌≡◌, refl, sym, ap, ◌∙◌}
use mathlib.Core.Logic.{◌≢◌}
use mathlib.Core.Bool.{Bool, true, false, cond}
use mathlib.Core.List.{List, [], ◌∷◌, ◌++◌, flat_map}
use lib.ListN.{length, get_or, set, take, length-set}
use lib.Seq.{lt-length-set, get_or-set_same, get_or-set_other}
use Rattle.round.specs.Turn.{next_place}
use Rattle.round.specs.FirstDue.{due_among, Each, NotIn, AllApart, next_behind}
use Rattle.round.proofs.Places.{each_by, each_with, each_due, each_take, same_due, same_said}

-- ---- the records after some services; e stands in where there is no record
module _ {A : Type 0} (e : A) (serve : A → A) where
  abbrev pub served_at : List A → ℕ → List A
  served_at l p = set l p (serve (get_or l p e))

  abbrev pub after_all : List ℕ → List A → List A
  after_all [] l = l
  after_all (p ∷ ps) l = after_all ps (served_at l p)

  pub after_length : (ps : List ℕ) (l : List A) → length (after_all ps l) ≡ length l
  after_length [] l = refl
  after_length (p ∷ ps) l = after_length ps (served_at l p) ∙ length-set l p _

  pub after_other :
      (x : ℕ) (ps : List ℕ) (l : List A) → NotIn x ps → get_or (after_all ps l) x e ≡ get_or l x e
  after_other x [] l h = refl
  after_other x (p ∷ ps) l h =
      after_other x ps (served_at l p) h.1 ∙ get_or-set_other l p x _ e (λ same. h.0 (sym same))

  pub after_served :
      (ps : List ℕ) (l : List A) → AllApart ps → Each (λ (p : ℕ). p < length l) ps →
      Each (λ (p : ℕ). get_or (after_all ps l) p e ≡ serve (get_or l p e)) ps
  after_served [] l a h = tt
  after_served (p ∷ ps) l a h = (
    after_other p ps (served_at l p) a.0 ∙ get_or-set_same l p _ e h.0,
    each_with (λ (q : ℕ) (other : q ≢ p) same. same ∙ ap serve (get_or-set_other l p q _ e other)) ps a.0
        (after_served ps (served_at l p) a.1 (each_by (λ (q : ℕ) b. lt-length-set l p _ b) ps h.1)),
  )

-- ---- a round told by the places it serves: the records after it, where the next starts, and what is said
abbrev pub Told : (A B : Type 0) → Type 0
Told A B = List A × ℕ × List B

abbrev pub saying : {A B : Type 0} → List B → Told A B → Told A B
saying said r = (r.0, r.1, said ++ r.2)

module _ {A B : Type 0} (n : ℕ) (e : A) (due : A → Bool) (serve : A → A) (say : A → List B) where
  abbrev due_at : List A → ℕ → Bool
  due_at l p = due (get_or l p e)

  abbrev say_at : List A → ℕ → List B
  say_at l p = say (get_or l p e)

  abbrev pub told_of : List ℕ → List A → (next : ℕ) → Told A B
  told_of served l next = (after_all e serve served l, next_behind n served next, flat_map (say_at l) served)

  abbrev pub told : (left : ℕ) → List ℕ → List A → (next : ℕ) → Told A B
  told left ps l next = told_of (take left (due_among (due_at l) ps)) l next

  module _ (left p : ℕ) (ps : List ℕ) (l : List A) (next : ℕ) where
    abbrev rest : List ℕ
    rest = due_among (due_at l) ps

    pub told_rests : due (get_or l p e) ≡ false → told left (p ∷ ps) l next ≡ told left ps l next
    told_rests h = ap (λ (b : Bool). told_of (take left (cond b (p ∷ rest) rest)) l next) h

    -- no later place is p, so that what is due and said there is as it was
    module _ (h : due (get_or l p e) ≡ true) (others : NotIn p ps) where
      abbrev after : List A
      after = served_at e serve l p

      stays : {C : Type 0} (f : A → C) → Each (λ (q : ℕ). f (get_or l q e) ≡ f (get_or after q e)) ps
      stays f = each_by (λ (q : ℕ) (other : q ≢ p). ap f (sym (get_or-set_other l p q _ e other))) ps others

      same_chosen : take left rest ≡ take left (due_among (due_at after) ps)
      same_chosen = ap (take left) (same_due (due_at l) (due_at after) ps (stays due))

      abbrev SaysSame : ℕ → Type 0
      SaysSame q = say_at l q ≡ say_at after q

      same_words : flat_map (say_at l) (take left rest) ≡ flat_map (say_at after) (take left (due_among (due_at after) ps))
      same_words =
          same_said (say_at l) (say_at after) (take left rest)
          (each_take SaysSame left rest (each_due SaysSame (due_at l) ps (stays say)))
          ∙ ap (flat_map (say_at after)) same_chosen

      pub told_serves :
          told (suc left) (p ∷ ps) l next ≡ saying (say_at l p) (told left ps (served_at e serve l p) (next_place n p))
      unfolding flat_map
      told_serves =
          ap (λ (b : Bool). told_of (take (suc left) (cond b (p ∷ rest) rest)) l next) h
          ∙ (λ i. (
            after_all e serve (same_chosen i) after,
            next_behind n (same_chosen i) (next_place n p),
            say_at l p ++ same_words i,
          ))
