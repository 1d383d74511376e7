-- Demand 3, its last sentence in the words of paper 02, request 5. No contract cites this file.
--   in_row_zero         with H 0 a SYNC is in a row if it arrives L or more after the moment
--   spaced_in_row       SYNC arrivals at most L apart, H of them L or more after the moment, are a row
--   each_spaced_taken   so each confirmed pair after them is taken
-- Assumes nothing.
use Prim.Native.Nat.{ℕ, zero, suc, ◌+◌, ◌≤◌, ◌<◌}
use mathlib.Core.Path.{◌≡◌, refl, sym, ap, subst}
use mathlib.Core.Bool.{Bool, true, false, cond}
use mathlib.Core.List.{List, [], ◌∷◌, ◌++◌}
use native.Mathlib.Omega.{arith}
use lib.Dec.{leb}
use borrow.Author.Tests.{leb-true, leb-false, lt-leb}
use Rattle.clock.specs.Reading.{span_of}
use Rattle.history.specs.History.{Link, master_settings, slave_settings, on_slave, Event, History, heard_in, is_sync}
use Rattle.history.specs.Demand.{
  now,
  NeverFall,
  heard_since,
  Copy,
  arrivals,
  InRow,
  SyncBefore,
  Spaced,
  syncs_in,
  copies_since,
  EachSpacedTaken,
}
use Rattle.history.proofs.Rows.{fup_here, sync_bytes}
use Rattle.history.proofs.Since.{Adds, passes, arrives, adds, nothing, row_since}
use Rattle.history.proofs.Standing.{standing}
use Rattle.history.proofs.Taken.{each_pair_taken}

-- ---- copies arrive one after another

abbrev Before : Link → (limit : ℕ) → List Copy → Type 0
Before k limit [] = Unit {0}
Before k limit (q ∷ older) = (on_slave k q.at ≤ limit) × Before k (on_slave k q.at) older

before_later :
    (k : Link) (limit later : ℕ) (copies : List Copy) → limit ≤ later → Before k limit copies → Before k later copies
before_later k limit later [] le b = tt
before_later k limit later (q ∷ older) le b = (omega (arith, le, b.0), b.1)

module _ (k : Link) (moment : ℕ) where
  next_before :
      (x : Event) (h : History) (copies : List Copy) → NeverFall k (x ∷ h) → Adds k moment h x copies →
      ((copies : List Copy) → heard_since k moment (heard_in k h) ≡ arrivals copies → Before k (now k h) copies) →
      Before k (now k (x ∷ h)) copies
  next_before x h copies fall (passes y all p e) before = before_later k _ _ copies fall.1 (before copies e)
  next_before x h copies fall (arrives q older heard late e) before =
      (omega arith, before_later k _ _ older fall.1 (before older e))

  heard_before :
      (h : History) → NeverFall k h → (copies : List Copy) → heard_since k moment (heard_in k h) ≡ arrivals copies →
      Before k (now k h) copies
  heard_before [] fall copies e = subst (Before k 0) (sym (nothing copies e)) tt
  heard_before (x ∷ h) fall copies e =
      next_before x h copies fall (adds k moment x h copies e) (heard_before h fall.0)

record Follow (k : Link) (copies : List Copy) : Type 0 where
  limit : ℕ
  before : Before k limit copies

older_before : (k : Link) (limit : ℕ) (newer older : List Copy) → Before k limit (newer ++ older) → Follow k older
older_before k limit [] older b = record { limit = limit; before = b }
older_before k limit (q ∷ newer) older b = older_before k (on_slave k q.at) newer older b.1

none_late :
    (k : Link) (limit from : ℕ) (copies : List Copy) → limit < from → Before k limit copies →
    copies_since k from copies ≡ []
none_late k limit from [] lt b = refl
none_late k limit from (q ∷ older) lt b =
    rw (lt-leb from (on_slave k q.at) (omega (arith, lt, b.0)))
    (none_late k (on_slave k q.at) from older (omega (arith, lt, b.0)) b.1)

-- ---- a row of them

pub in_row_zero :
    (k : Link) (moment : ℕ) (y : Copy) (older : List Copy) →
    InRow k moment 0 y older ≡ (moment + (slave_settings k).loss_time ≤ on_slave k y.at)
in_row_zero k moment y older = refl

module _ (k : Link) (moment : ℕ) where
  abbrev from : ℕ
  from = moment + (slave_settings k).loss_time

  abbrev Claim : (h : ℕ) (y : Copy) (older : List Copy) → Type 0
  Claim h y older =
      SyncBefore k y older → Spaced k older → from ≤ on_slave k y.at →
      h ≤ syncs_in (copies_since k from older) → InRow k moment h y older

  -- the copy before y: if it came too early, none came in time; else it is a SYNC of the row, or a FUP
  by_kind :
      (h : ℕ) (y q : Copy) (older : List Copy) (b : Bool) → Spaced k older → from ≤ on_slave k q.at →
      from ≤ on_slave k y.at →
      cond b (span_of q.at y.at ≤ (slave_settings k).loss_time) (SyncBefore k y older) →
      cond b (SyncBefore k q older) (Unit {0}) →
      suc h ≤ cond b (suc (syncs_in (copies_since k from older))) (syncs_in (copies_since k from older)) →
      Claim h q older → Claim (suc h) y older →
      cond b ((span_of q.at y.at ≤ (slave_settings k).loss_time) × InRow k moment h q older)
      (InRow k moment (suc h) y older)
  by_kind h y q older true spaced late after near before enough one further =
      (near, one before spaced late (omega (arith, enough)))
  by_kind h y q older false spaced late after before none enough one further = further before spaced after enough

  by_time :
      (h : ℕ) (y q : Copy) (older : List Copy) (b : Bool) → leb from (on_slave k q.at) ≡ b →
      Before k (on_slave k q.at) older → Spaced k (q ∷ older) → from ≤ on_slave k y.at →
      SyncBefore k y (q ∷ older) →
      suc h ≤ syncs_in (cond b (q ∷ copies_since k from older) (copies_since k from older)) →
      Claim h q older → Claim (suc h) y older → InRow k moment (suc h) y (q ∷ older)
  by_time h y q older true e b spaced after before enough one further =
      by_kind h y q older (is_sync q.of) spaced.1 (leb-true _ _ e) after before spaced.0 enough one further
  by_time h y q older false e b spaced after before enough one further =
      let none = ap syncs_in (none_late k (on_slave k q.at) from older (leb-false _ _ e) b) in
      absurd (omega (arith, none, enough))

  pub spaced_in_row : (h limit : ℕ) (y : Copy) (older : List Copy) → Before k limit older → Claim h y older
  spaced_in_row zero limit y older b before spaced after enough = after
  spaced_in_row (suc h) limit y [] b before spaced after enough = absurd (omega (arith, enough))
  spaced_in_row (suc h) limit y (q ∷ older) b before spaced after enough =
      by_time h y q older (leb from (on_slave k q.at)) refl b.1 spaced after before enough
      (spaced_in_row h (on_slave k q.at) q older b.1) (spaced_in_row (suc h) (on_slave k q.at) y older b.1)

-- ---- the pairs after it

spaced_older : (k : Link) (newer older : List Copy) → Spaced k (newer ++ older) → Spaced k older
spaced_older k [] older s = s
spaced_older k (q ∷ newer) older s = spaced_older k newer older s.1

pub each_spaced_taken : EachSpacedTaken
each_spaced_taken k l h calls fall range moment o newer older f y split is_a_fup in_time spaced late enough =
    let m = master_settings k in
    let r = row_since k l moment h (standing k l h calls) o newer (f ∷ y ∷ older) split in
    let p = fup_here m k.domain r.row.latest f.of y.of _ r.row.row is_a_fup in
    let is_a_sync : is_sync y.of ≡ true = (sync_bytes m k.domain p.counter y.of p.sync).is in
    let near = (spaced_older k newer (f ∷ y ∷ older) (subst (Spaced k) split spaced)).1 in
    let before = subst (λ (b : Bool). cond b (SyncBefore k y older) (Unit {0})) is_a_sync near.0 in
    let all = subst (Before k (now k h)) split (heard_before k moment h fall o.copies o.only) in
    let came = older_before k (now k h) newer (f ∷ y ∷ older) all in
    each_pair_taken k l h calls fall range moment o newer older f y split is_a_fup in_time
    (spaced_in_row k moment (slave_settings k).hysteresis _ y older came.before.1.1 before near.1 late enough)
