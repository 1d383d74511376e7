-- How long a leap shows (paper 02, request 3). No contract cites this file.
--   count_one     with a count of 1 the leap after an update is paper 01's, whatever is held
--   leap_anew     what comes after a leap does not depend on what was before it
--   leap_stays    a leap shows after fewer than `count` updates within both thresholds, as many as the run says
--   leap_clears   and after `count` of them, or more, it does not
-- Assumes nothing.
use Rattle.std.specs.Prelude.{None, Option, Some}
use Prim.Native.Nat.{ℕ, zero, suc, ◌+◌, ◌-◌, ◌≤◌, ◌<◌}
use mathlib.Core.Path.{◌≡◌, refl, ap, ◌∙◌}
use mathlib.Core.Bool.{Bool, true, false, cond}
use mathlib.Core.List.{List, [], ◌∷◌, ◌++◌}
use native.Mathlib.Omega.{arith}
use borrow.Author.Tests.{le-ltb, lt-ltb}
use lib.IntN.{ℤ, pos, negsuc}
use lib.ListN.{length}
use Rattle.slave_update.specs.Leap.{is_future, is_past, calmer, leap_after}
use Rattle.slave_update.specs.Row.{leap_of, Within, AllWithin, leap_after_all, with_run}
use Rattle.domain.specs.declared.Leap.{Leap}
use Rattle.domain.specs.declared.Leap.TheVariants.{Future, Past}

-- ---- one update

-- by the two tests: a leap is the one that D is; within both thresholds, what is left of the one held
abbrev leap_by : (future past : Bool) (other : Option Leap) → Option Leap
leap_by future past other = cond future (Some (Future 0)) (cond past (Some (Past 0)) other)

by_within : (future past : Bool) (other : Option Leap) → leap_by future past None ≡ None → leap_by future past other ≡ other
by_within true past other e = let no : ◌≡◌ {A = ℕ} 0 1 = cc in absurd (omega arith)
by_within false true other e = let no : ◌≡◌ {A = ℕ} 0 1 = cc in absurd (omega arith)
by_within false false other e = refl

by_leap :
    (future past : Bool) (other : Option Leap) → (leap_by future past None ≡ None → ⊥) →
    leap_by future past other ≡ leap_by future past None
by_leap true past other is = refl
by_leap false true other is = refl
by_leap false false other is = absurd (is refl)

calm_one : (held : Option Leap) → calmer 1 held ≡ None
calm_one None = refl
calm_one (Some (Future run)) = rw (le-ltb (run + 1) 1 (omega arith))
calm_one (Some (Past run)) = rw (le-ltb (run + 1) 1 (omega arith))

pub count_one : (future past : ℕ) (held : Option Leap) (d : ℤ) → leap_after future past 1 held d ≡ leap_of future past d
count_one future past held d = ap (leap_by (is_future future d) (is_past past d)) (calm_one held)

-- ---- a row of them

module _ (future past count : ℕ) where
  abbrev after : Option Leap → ℤ → Option Leap
  after = leap_after future past count

  abbrev after_all : Option Leap → List ℤ → Option Leap
  after_all = leap_after_all future past count

  within : (held : Option Leap) (d : ℤ) → Within future past d → after held d ≡ calmer count held
  within held d = by_within (is_future future d) (is_past past d) (calmer count held)

  pub leap_anew :
      (held : Option Leap) (before row : List ℤ) (d : ℤ) → (Within future past d → ⊥) →
      after_all held (before ++ d ∷ row) ≡ after_all (leap_of future past d) row
  leap_anew held [] row d is =
      ap (λ (l : Option Leap). after_all l row) (by_leap (is_future future d) (is_past past d) (calmer count held) is)
  leap_anew held (first ∷ before) row d is = leap_anew (after held first) before row d is

  none_stays : (row : List ℤ) → AllWithin future past row → after_all None row ≡ None
  none_stays [] w = refl
  none_stays (d ∷ row) w = ap (λ (l : Option Leap). after_all l row) (within None d w.0) ∙ none_stays row w.1

  calm_on : (leap : Option Leap) (run : ℕ) → run + 1 < count → calmer count (with_run leap run) ≡ with_run leap (run + 1)
  calm_on None run h = refl
  calm_on (Some (Future other)) run h = rw (lt-ltb (run + 1) count h)
  calm_on (Some (Past other)) run h = rw (lt-ltb (run + 1) count h)

  calm_off : (leap : Option Leap) (run : ℕ) → count ≤ run + 1 → calmer count (with_run leap run) ≡ None
  calm_off None run h = refl
  calm_off (Some (Future other)) run h = rw (le-ltb (run + 1) count h)
  calm_off (Some (Past other)) run h = rw (le-ltb (run + 1) count h)

  stays :
      (leap : Option Leap) (run : ℕ) (row : List ℤ) → AllWithin future past row → run + length row < count →
      after_all (with_run leap run) row ≡ with_run leap (run + length row)
  stays leap run [] w h = ap (with_run leap) (omega arith)
  stays leap run (d ∷ row) w h =
      ap (λ (l : Option Leap). after_all l row) (within (with_run leap run) d w.0 ∙ calm_on leap run (omega arith))
      ∙ stays leap (run + 1) row w.1 (omega arith)
      ∙ ap (with_run leap) (omega arith)

  clears :
      (leap : Option Leap) (left run : ℕ) (row : List ℤ) → run + suc left ≡ count → AllWithin future past row →
      left < length row → after_all (with_run leap run) row ≡ None
  clears leap left run [] all w h = absurd (omega arith)
  clears leap zero run (d ∷ row) all w h =
      ap (λ (l : Option Leap). after_all l row) (within (with_run leap run) d w.0 ∙ calm_off leap run (omega arith))
      ∙ none_stays row w.1
  clears leap (suc left) run (d ∷ row) all w h =
      ap (λ (l : Option Leap). after_all l row) (within (with_run leap run) d w.0 ∙ calm_on leap run (omega arith))
      ∙ clears leap left (run + 1) row (omega arith) w.1 (omega arith)

  run_zero : (future past : Bool) → leap_by future past None ≡ with_run (leap_by future past None) 0
  run_zero true past = refl
  run_zero false true = refl
  run_zero false false = refl

  -- the leap of D, then a row within both thresholds; whatever was before
  module _ (held : Option Leap) (before row : List ℤ) (d : ℤ) (is : Within future past d → ⊥)
      (w : AllWithin future past row) where
    abbrev leap : Option Leap
    leap = leap_of future past d

    begun : after_all held (before ++ d ∷ row) ≡ after_all (with_run leap 0) row
    begun =
        leap_anew held before row d is
        ∙ ap (λ (l : Option Leap). after_all l row) (run_zero (is_future future d) (is_past past d))

    pub leap_stays : length row < count → after_all held (before ++ d ∷ row) ≡ with_run leap (length row)
    leap_stays h = begun ∙ stays leap 0 row w (omega arith) ∙ ap (with_run leap) (omega arith)

    pub leap_clears : 1 ≤ count → count ≤ length row → after_all held (before ++ d ∷ row) ≡ None
    leap_clears least h = begun ∙ clears leap (count - 1) 0 row (omega arith) w (omega arith)

-- ---- such rows there are: thresholds 500, and a count of 2

last_shows : leap_after_all 500 500 2 (Some (Past 1)) (pos 501 ∷ negsuc 500 ∷ pos 500 ∷ []) ≡ Some (Past 1)
last_shows = refl

last_clears : leap_after_all 500 500 2 (Some (Past 1)) (pos 501 ∷ negsuc 500 ∷ pos 500 ∷ negsuc 499 ∷ []) ≡ None
last_clears = refl

meets : (Within 500 500 (negsuc 500) → ⊥) × AllWithin 500 500 (pos 500 ∷ negsuc 499 ∷ [])
meets = (λ e. let no : ◌≡◌ {A = ℕ} 0 1 = cc in absurd (omega arith), (refl, (refl, tt)))
