-- Paper 01, "A slave's domain": SYNC at t, and paper 02, request 5. Assumes nothing.
use Rattle.std.specs.Prelude.{ℕ, ◌+◌, ◌<◌, ◌≡◌, ◌⊎◌, Ok, Some}
use Rattle.clock.specs.declared.reading.VirtualLocalTime.{VirtualLocalTime}
use Rattle.frame.specs.declared.values.Sync.{Sync}
use Rattle.refusal.specs.declared.Refusal.TheVariants.{SyncCounter, RowIncomplete}
use Rattle.domain.specs.declared.Domain.{Domain}
use Rattle.domain.specs.Fields.{with_pairing, with_last}
use Rattle.domain.specs.declared.LastSync.TheVariants.{Seen}
use Rattle.slave_counter.specs.declared.CounterVerdict.{CounterVerdict}
use Rattle.slave_counter.specs.declared.CounterVerdict.TheVariants.{Free, Good, NotGood}
use Rattle.slave_counter.specs.declared.RowCheck.{RowCheck}
use Rattle.slave_counter.specs.declared.RowCheck.TheVariants.{NotGood as not_good, Joins, Complete}
use Rattle.slave_counter.specs.Counter.{verdict_of}
use Rattle.slave_counter.specs.Row.{row_of, with_row, checked_of}
use Rattle.slave_pair.specs.Pair.{pair_of}
use Rattle.slave_answer.specs.Answer.{refused_of}
use Rattle.domain.specs.declared.DomainStep.{DomainStep}
use Rattle.refusal.specs.Numbers.{Outcome}
use Rattle.slave_answer.specs.declared.Taken.{Taken}
use Rattle.slave_answer.specs.declared.Taken.TheVariants.{Opened}

-- ---- the counter of a SYNC for a record, and the check of it
abbrev pub verdict_for : Domain → VirtualLocalTime → Sync → CounterVerdict
verdict_for d t s =
    verdict_of d.settings.jump_width d.settings.loss_time d.last s.counter t

abbrev pub check_for : Domain → VirtualLocalTime → Sync → RowCheck
check_for d t s = checked_of d.settings.hysteresis (row_of d.last) (verdict_for d t s)

-- ---- A SYNC "becomes the last one", with its row.
abbrev pub with_sync : Domain → VirtualLocalTime → Sync → (row : ℕ) → Domain
with_sync d t s row = with_last d (Seen s.counter row t)

-- ---- "An accepted SYNC opens a pair with T2 = t, in place of one already open, and becomes the last.
-- It does not move the base."
abbrev pub with_pair : Domain → VirtualLocalTime → Sync → (row : ℕ) → Domain
with_pair d t s row = with_sync (with_pairing d (Some (pair_of t s))) t s row

-- ---- 6 "SYNC's counter not good": "a refused counter during the row sets it to 0". 15 "SYNC good in counter but row
-- not complete": "such a SYNC becomes the last one, joins the row".
abbrev pub sync_as : RowCheck → Domain → VirtualLocalTime → Sync → DomainStep (Outcome Taken)
sync_as (not_good row) d t s = refused_of (with_last d (with_row d.last row)) SyncCounter
sync_as (Joins row) d t s = refused_of (with_sync d t s row) RowIncomplete
sync_as (Complete row) d t s = record { answer = Ok Opened; domain = with_pair d t s row }

abbrev pub sync_of : Domain → VirtualLocalTime → Sync → DomainStep (Outcome Taken)
sync_of d t s = sync_as (check_for d t s) d t s

-- ---- What 15 leaves: the record with the SYNC as its last, and the row, which is not complete: 0 where any counter
-- was good, else one more.
pub record JoinsRow (d : Domain) (t : VirtualLocalTime) (s : Sync) (after : Domain) : Type 0 where
  pub row : ℕ
  pub below : row < d.settings.hysteresis
  pub counted : ((verdict_for d t s ≡ Free) × (row ≡ 0)) ⊎ ((verdict_for d t s ≡ Good) × (row ≡ row_of d.last + 1))
  pub is : after ≡ with_sync d t s row

-- ---- The rule of paper 01: a SYNC whose counter is good is accepted, and any other changes nothing.
abbrev pub first_rule : CounterVerdict → Domain → VirtualLocalTime → Sync → DomainStep (Outcome Taken)
first_rule Free d t s = record { answer = Ok Opened; domain = with_pair d t s 0 }
first_rule Good d t s = record { answer = Ok Opened; domain = with_pair d t s 0 }
first_rule NotGood d t s = refused_of d SyncCounter
