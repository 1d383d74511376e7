-- What the laws on leaps speak of: paper 01's rule, and updates in a row (paper 02, request 3). Assumes nothing.
use Rattle.std.specs.Prelude.{ℕ, ◌≡◌, cond, ℤ, None, Option, Some}
use mathlib.Core.List.{List, [], ◌∷◌, foldl}
use Rattle.slave_update.specs.Leap.{is_future, is_past, leap_after}
use Rattle.domain.specs.declared.Leap.{Leap}
use Rattle.domain.specs.declared.Leap.TheVariants.{Future, Past}

-- ---- Paper 01: "otherwise each is cleared", whatever was held. The leap that D is.
abbrev pub leap_of : (future past : ℕ) → ℤ → Option Leap
leap_of future past d = cond (is_future future d) (Some (Future 0)) (cond (is_past past d) (Some (Past 0)) None)

-- ---- "within both thresholds": an update by D, and every one of a row.
abbrev pub Within : (future past : ℕ) → ℤ → Type 0
Within future past d = leap_of future past d ≡ None

abbrev pub AllWithin : (future past : ℕ) → List ℤ → Type 0
AllWithin future past [] = Unit {0}
AllWithin future past (d ∷ row) = Within future past d × AllWithin future past row

-- ---- The leap after updates one after another, by their D.
abbrev pub leap_after_all : (future past count : ℕ) → Option Leap → List ℤ → Option Leap
leap_after_all future past count = foldl (leap_after future past count)

-- ---- The same bit with another run.
abbrev pub with_run : Option Leap → (run : ℕ) → Option Leap
with_run None run = None
with_run (Some (Future other)) run = Some (Future run)
with_run (Some (Past other)) run = Some (Past run)
