-- Laws of a slave's SYNC. No contract cites this file.
--   refusal_keeps_sync   a SYNC is answered 0, 6 or 15, so no other number changes its record
--   six_keeps_sync       under 6 nothing but the row changes, and that only while it is not complete
--   fifteen_keeps_sync   under 15 the SYNC becomes the last and joins the row, and nothing else changes
--   sync_keeps_base      a SYNC does not move the base, taken or refused
--   row_zero             with H 0 a SYNC is taken or refused by the rule of paper 01
-- Assumes nothing.
use Prim.Native.Nat.{ℕ, ◌+◌}
use mathlib.Core.Path.{◌≡◌, refl, ap}
use mathlib.Core.Logic.{inl, inr}
use native.Mathlib.Omega.{arith}
use Rattle.clock.specs.declared.reading.VirtualLocalTime.{VirtualLocalTime}
use Rattle.frame.specs.declared.values.Sync.{Sync}
use Rattle.domain.specs.declared.Domain.{Domain}
use Rattle.domain.specs.declared.LastSync.{LastSync}
use Rattle.domain.specs.Fields.{with_last}
use Rattle.refusal.specs.declared.Refusal.TheVariants.{SyncCounter}
use Rattle.slave_answer.specs.Answer.{refused_of, Keeps}
use Rattle.slave_counter.specs.declared.CounterVerdict.{CounterVerdict}
use Rattle.slave_counter.specs.declared.RowCheck.{RowCheck}
use Rattle.slave_counter.specs.declared.RowCheck.TheVariants.{NotGood, Joins, Complete}
use Rattle.slave_counter.specs.Row.{row_of, with_row, row_refused}
use Rattle.slave_counter.proofs.Laws.{Checked, not_joined, begins, alone, joins, completes, checked, last_stays}
use Rattle.slave_sync.specs.Sync.{verdict_for, check_for, sync_as, sync_of, JoinsRow, first_rule}
use Rattle.refusal.specs.Numbers.{outcome_number}

module _ (d : Domain) (t : VirtualLocalTime) (s : Sync) where
  abbrev h : ℕ
  h = d.settings.hysteresis

  abbrev row : ℕ
  row = row_of d.last

  abbrev found : Checked h row (verdict_for d t s) (check_for d t s)
  found = checked h row (verdict_for d t s)

  -- ---- what a SYNC that is refused changes

  keeps : (k : RowCheck) → Keeps d (sync_as k d t s)
  keeps (NotGood r) (none, six, fifteen) = absurd (six refl)
  keeps (Joins r) (none, six, fifteen) = absurd (fifteen refl)
  keeps (Complete r) (none, six, fifteen) = absurd (none refl)

  pub refusal_keeps_sync : Keeps d (sync_of d t s)
  refusal_keeps_sync = keeps (check_for d t s)

  six : (v : CounterVerdict) (k : RowCheck) → Checked h row v k → outcome_number (sync_as k d t s).answer ≡ 6 →
      (sync_as k d t s).domain ≡ with_last d (with_row d.last (row_refused h row))
  six v k not_joined e = refl
  six v k (begins lt) e = absurd (omega arith)
  six v k (alone le) e = absurd (omega arith)
  six v k (joins lt) e = absurd (omega arith)
  six v k (completes le) e = absurd (omega arith)

  pub six_keeps_sync :
      outcome_number (sync_of d t s).answer ≡ 6 →
      (sync_of d t s).domain ≡ with_last d (with_row d.last (row_refused h row))
  six_keeps_sync = six (verdict_for d t s) (check_for d t s) found

  fifteen :
      (v : CounterVerdict) (k : RowCheck) → verdict_for d t s ≡ v → Checked h row v k →
      outcome_number (sync_as k d t s).answer ≡ 15 → JoinsRow d t s (sync_as k d t s).domain
  fifteen v k is not_joined e = absurd (omega arith)
  fifteen v k is (begins lt) e = record { row = 0; below = lt; counted = inl (is, refl); is = refl }
  fifteen v k is (alone le) e = absurd (omega arith)
  fifteen v k is (joins lt) e = record { row = row + 1; below = lt; counted = inr (is, refl); is = refl }
  fifteen v k is (completes le) e = absurd (omega arith)

  pub fifteen_keeps_sync : outcome_number (sync_of d t s).answer ≡ 15 → JoinsRow d t s (sync_of d t s).domain
  fifteen_keeps_sync = fifteen (verdict_for d t s) (check_for d t s) refl found

  -- ---- what any SYNC leaves

  base_stays : (k : RowCheck) → (sync_as k d t s).domain.base ≡ d.base
  base_stays (NotGood r) = refl
  base_stays (Joins r) = refl
  base_stays (Complete r) = refl

  pub sync_keeps_base : (sync_of d t s).domain.base ≡ d.base
  sync_keeps_base = base_stays (check_for d t s)

  -- ---- H 0

  at_zero : h ≡ 0 → (v : CounterVerdict) (k : RowCheck) → Checked h row v k → sync_as k d t s ≡ first_rule v d t s
  at_zero e v k not_joined =
      ap (λ (last : LastSync). refused_of (with_last d last) SyncCounter) (last_stays h d.last (omega arith))
  at_zero e v k (begins lt) = absurd (omega arith)
  at_zero e v k (alone le) = ap (λ (r : ℕ). sync_as (Complete r) d t s) e
  at_zero e v k (joins lt) = absurd (omega arith)
  at_zero e v k (completes le) = ap (λ (r : ℕ). sync_as (Complete r) d t s) e

  pub row_zero : h ≡ 0 → sync_of d t s ≡ first_rule (verdict_for d t s) d t s
  row_zero e = at_zero e (verdict_for d t s) (check_for d t s) found
