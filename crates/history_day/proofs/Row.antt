-- Demand 3 with the row of paper 02, request 5: antt computes a history that meets its last sentence with H 2, and two
-- that refute the sentence where a SYNC fewer, or SYNCs further apart, would do. No contract cites this file.
--   row_met           the last sentence's hypotheses hold of the third pair
--   row_taken         so it is taken
--   row_spaced        and in the words of the request
--   row_numbers       the calls are answered 15, 15, then 0
--   row_holds         the slave holds the third SYNC's time
--   row_one_fewer     the second pair has one SYNC before it, and all else is met
--   fewer_not_taken   it is not taken
--   one_sync_fewer    so the sentence with one SYNC fewer is false
--   one_late_fewer    and so are the request's words
--   row_apart         a pair with H 1, and one SYNC before it that came more than L earlier; all else is met
--   apart_not_taken   it is not taken
--   any_distance      so the sentence without "at most L apart" is false
--   not_spaced        and so are the request's words
-- Assumes nothing.
use Rattle.std.specs.Prelude.{Some}
use mathlib.Core.Path.{◌≡◌, refl, sym, ap, ◌∙◌}
use mathlib.Core.Bool.{true}
use mathlib.Core.List.{[], ◌∷◌}
use native.Mathlib.Omega.{arith}
use Rattle.round.specs.Round.{goes}
use Rattle.history.specs.History.{slave_record}
use Rattle.history.specs.Demand.{Linked, Orderly, InRow, Taken, Spaced}
use Rattle.history.proofs.Taken.{each_pair_taken}
use Rattle.history.proofs.Spaced.{each_spaced_taken}
use Rattle.history_day.specs.Met.{PairMet, at_most_l, RowBy, OneSyncFewer, AnyDistance, SpacedBy, numbers_in}
use Rattle.history_day.specs.Row.{
  two_link,
  two_moment,
  first_sync,
  second_sync,
  second_fup,
  third_sync,
  third_fup,
  two_begun,
  two_day,
  begun_numbers,
  two_numbers,
  two_base,
  apart_link,
  apart_moment,
}
use Rattle.history_day.proofs.Tests.{linked_by, fair, taken_met, taken_spaced, never_set, never_set_lem}

-- ---- H 2: the third pair
linked : Linked two_link
linked = linked_by _ (omega arith) refl refl refl refl refl refl

orderly : Orderly two_link two_moment two_day
unfolding goes
orderly =
    record {
      under_way = [];
      copies = third_fup ∷ third_sync ∷ second_fup ∷ second_sync ∷ first_sync ∷ [];
      all = refl;
      only = refl;
    }

pub row_met :
    PairMet two_link two_day two_moment [] third_fup third_sync (second_fup ∷ second_sync ∷ first_sync ∷ [])
unfolding goes orderly
row_met =
    record {
      fair = fair two_link linked refl two_day refl;
      orderly = orderly;
      copies = refl;
      is_a_fup = refl;
      soon = omega arith;
    }

in_row : InRow two_link two_moment 2 third_sync (second_fup ∷ second_sync ∷ first_sync ∷ [])
in_row = (omega arith, (omega arith, omega arith))

pub row_taken : Taken two_link two_moment two_day third_fup third_sync (second_fup ∷ second_sync ∷ first_sync ∷ [])
row_taken = taken_met each_pair_taken two_link two_day two_moment [] third_fup third_sync _ row_met in_row

pub row_spaced : Taken two_link two_moment two_day third_fup third_sync (second_fup ∷ second_sync ∷ first_sync ∷ [])
unfolding orderly row_met
row_spaced =
    taken_spaced each_spaced_taken two_link two_day two_moment [] third_fup third_sync _ row_met
    (tt, (omega arith, (tt, (omega arith, (tt, tt)))))
    (omega arith)
    (omega arith)

pub row_numbers : numbers_in two_link two_day ≡ two_numbers
unfolding goes
row_numbers = refl

pub row_holds : (slave_record two_link two_day).base ≡ Some two_base
unfolding goes
row_holds = refl

-- ---- one SYNC fewer: the second pair
pub row_one_fewer : PairMet two_link two_begun two_moment [] second_fup second_sync (first_sync ∷ [])
unfolding goes
row_one_fewer =
    record {
      fair = fair two_link linked refl two_begun refl;
      orderly =
          record { under_way = []; copies = second_fup ∷ second_sync ∷ first_sync ∷ []; all = refl; only = refl };
      copies = refl;
      is_a_fup = refl;
      soon = omega arith;
    }

fewer_never : never_set two_link two_begun ≡ true
unfolding goes
fewer_never = refl

pub fewer_not_taken : Taken two_link two_moment two_begun second_fup second_sync (first_sync ∷ []) → ⊥
fewer_not_taken t =
    never_set_lem two_link t.after _ t.before _ (ap (never_set two_link) (sym t.call) ∙ fewer_never) t.base

pub one_sync_fewer : OneSyncFewer → ⊥
one_sync_fewer each =
    let row : RowBy 0 at_most_l two_link two_moment 1 second_sync (first_sync ∷ []) = (omega arith, omega arith) in
    fewer_not_taken (each two_link two_begun two_moment [] second_fup second_sync (first_sync ∷ []) row_one_fewer row)

pub one_late_fewer : SpacedBy 1 Spaced → ⊥
unfolding row_one_fewer
one_late_fewer each =
    fewer_not_taken
    (each two_link two_begun two_moment [] second_fup second_sync (first_sync ∷ []) row_one_fewer
    (tt, (omega arith, (tt, tt)))
    (omega arith)
    (omega arith))

-- ---- SYNCs more than L apart
apart_linked : Linked apart_link
apart_linked = linked_by _ (omega arith) refl refl refl refl refl refl

pub row_apart : PairMet apart_link two_begun apart_moment [] second_fup second_sync (first_sync ∷ [])
unfolding goes
row_apart =
    record {
      fair = fair apart_link apart_linked refl two_begun refl;
      orderly =
          record { under_way = []; copies = second_fup ∷ second_sync ∷ first_sync ∷ []; all = refl; only = refl };
      copies = refl;
      is_a_fup = refl;
      soon = omega arith;
    }

pub apart_numbers : numbers_in apart_link two_begun ≡ begun_numbers
unfolding goes
apart_numbers = refl

apart_never : never_set apart_link two_begun ≡ true
unfolding goes
apart_never = refl

pub apart_not_taken : Taken apart_link apart_moment two_begun second_fup second_sync (first_sync ∷ []) → ⊥
apart_not_taken t =
    never_set_lem apart_link t.after _ t.before _ (ap (never_set apart_link) (sym t.call) ∙ apart_never) t.base

pub any_distance : AnyDistance → ⊥
any_distance each =
    apart_not_taken
    (each apart_link two_begun apart_moment [] second_fup second_sync (first_sync ∷ []) row_apart (tt, omega arith))

pub not_spaced : SpacedBy 0 (λ k copies. Unit {0}) → ⊥
not_spaced each =
    apart_not_taken
    (each apart_link two_begun apart_moment [] second_fup second_sync (first_sync ∷ []) row_apart tt (omega arith)
    (omega arith))
