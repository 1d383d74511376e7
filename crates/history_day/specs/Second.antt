-- Demand 3 of paper 01: a day within one second, at the bounds. Nineteen SYNCs have the same seconds, so SYNC 16 has
-- the bytes of SYNC 0. Each is confirmed C after its sending; its copy arrives E after its sending, and its FUP F after
-- that, but the last FUP 1 ns later. Each but the first is taken by its counter, over the wrap from 15 to 0. Assumes
-- nothing.
use Rattle.std.specs.Prelude.{ℕ, zero, suc, ◌+◌, ◌*◌, ◌%◌, ◌≤◌, ◌≡◌, cond, List, [], ◌∷◌, ◌++◌, eqb, get_or, replicate}
use Rattle.clock.specs.declared.reading.VirtualLocalTime.{VirtualLocalTime}
use Rattle.clock.specs.declared.base.TimeBase.{TimeBase}
use Rattle.clock.specs.Reading.{span_of}
use Rattle.frame.specs.ByteTwo.{counters, counter_of}
use Rattle.frame_write.specs.Write.{rest_of}
use Rattle.domain.specs.declared.LastSync.TheVariants.{Seen}
use Rattle.slave_counter.specs.declared.CounterVerdict.{CounterVerdict}
use Rattle.slave_counter.specs.declared.CounterVerdict.TheVariants.{Free, Good}
use Rattle.slave_counter.specs.Counter.{verdict_of}
use Rattle.node_call.specs.Calls.{Call, frame, read, set, cycle, confirm}
use Rattle.history.specs.History.{Link, slave_settings, Event, at_master, at_slave, History, slave_record, counter_in}
use Rattle.history.specs.Demand.{Copy}
use Rattle.history_day.specs.Settings.{confirms_in, copy_of, millis, plain_link, sets, sync_after}

-- ---- P 10 ms, E 154 ms, F 4 ms, L 50 ms, C 5 ms: 16 P exceed E plus C by 1 ms
abbrev pub second_link : Link
second_link = plain_link 10 154 4 50 5

-- ---- The copies of SYNC n, which has the seconds 1000, and of its FUP.
abbrev pub copy_sync : (n : ℕ) → Copy
copy_sync n =
    copy_of (0x10 ∷ 0x00 ∷ rest_of (n % counters) 0x00 1000) (1000 + 10 * n) (1154 + 10 * n) 1000 (millis (10 * n))

abbrev pub copy_fup : (n : ℕ) → Copy
copy_fup n =
    copy_of (0x18 ∷ 0x00 ∷ rest_of (n % counters) 0x00 (millis (5 + 10 * n))) (1005 + 10 * n) (1158 + 10 * n)
    1000 (millis (5 + 10 * n))

-- ---- FUP 18, 1 ns later than F after its SYNC
abbrev pub late_fup : Copy
late_fup = record { of = (copy_fup 18).of; at = record { 0 = (copy_fup 18).at.0 + 1 } }

-- ---- the copies of so many pairs
abbrev pub copies : (count : ℕ) → List Copy
copies zero = []
copies (suc count) = copy_fup count ∷ copy_sync count ∷ copies count

-- ---- the calls: SYNC n is confirmed; a copy arrives
abbrev confirms : (n : ℕ) → Event
confirms n = confirms_in 0 (1005 + 10 * n) (n % counters)

abbrev comes : Copy → Event
comes c = at_slave (frame c.at c.of.bytes)

-- ---- So many SYNCs are sent; so many pairs arrive, each while the SYNC 15 later is sent; and so many alone.
abbrev sending : (count : ℕ) → History
sending zero = sets ∷ []
sending (suc count) = confirms count ∷ sync_after 10 count ∷ sending count

abbrev crossing : (count : ℕ) → History
crossing zero = sending 15
crossing (suc count) =
    comes (copy_fup count)
    ∷ confirms (15 + count)
    ∷ comes (copy_sync count)
    ∷ sync_after 10 (15 + count)
    ∷ crossing count

abbrev pub arriving : (count : ℕ) → History
arriving zero = crossing 4
arriving (suc count) = comes (copy_fup (4 + count)) ∷ comes (copy_sync (4 + count)) ∷ arriving count

-- ---- The 18 pairs 0 to 17, then SYNC 18 and its late FUP. From the setting on, all is orderly.
abbrev pub second : History
second = comes late_fup ∷ comes (copy_sync 18) ∷ arriving 14

abbrev pub second_moment : ℕ
second_moment = millis 1000

abbrev pub second_copies : List Copy
second_copies = late_fup ∷ copy_sync 18 ∷ copies 18

-- those after pair 16
abbrev pub copies_after : List Copy
copies_after = late_fup ∷ copy_sync 18 ∷ copy_fup 17 ∷ copy_sync 17 ∷ []

-- ---- What the calls are answered: 7 to the late FUP, 0 to all others.
abbrev pub second_numbers : List ℕ
second_numbers = 7 ∷ replicate 76 0

-- ---- What the slave holds at the end: SYNC 17's time, 1000.17 s, carried on by C, at its copy's reading.
abbrev pub second_base : TimeBase
second_base = record { time = record { 0 = 1000; 1 = millis 175 }; at = (copy_sync 17).at }

-- ---- How the counter of each SYNC that comes is judged: `Good` is 1 to J after the last one, within L; `Free` is
-- where any counter is good.
abbrev verdict_by : Link → History → Call → List CounterVerdict
verdict_by k before (frame t bytes) =
    cond (eqb (get_or bytes 0 0) 0x10)
    (verdict_of (slave_settings k).jump_width (slave_settings k).loss_time (slave_record k before).last
    (counter_of (get_or bytes 2 0))
    t
    ∷ [])
    []
verdict_by k before (read domain t) = []
verdict_by k before (set domain t s ns) = []
verdict_by k before (cycle t out) = []
verdict_by k before (confirm domain t counter out) = []

abbrev pub verdicts_in : Link → History → List CounterVerdict
verdicts_in k [] = []
verdicts_in k (at_master c ∷ h) = verdicts_in k h
verdicts_in k (at_slave c ∷ h) = verdict_by k h c ++ verdicts_in k h

-- SYNC 0, when none is known; all others by their counters
abbrev pub second_verdicts : List CounterVerdict
second_verdicts = replicate 18 Good ++ (Free ∷ [])

-- ---- A SYNC that comes at most L after the SYNC accepted last, with the next counter.
pub record NextWithin (k : Link) (before : History) (last row : ℕ) (at : VirtualLocalTime) (sync : Copy) : Type 0 where
  pub seen : (slave_record k before).last ≡ Seen last row at
  pub within : span_of at sync.at ≤ (slave_settings k).loss_time
  pub next : counter_in sync.of ≡ (last + 1) % counters
