-- Demand 3 of paper 01 as the must-fail edits of `history` alter it: each statement once, with a place for what an edit
-- alters, and then as each edit has it; and the histories that refute them where none of `Day` and `Edges` does. What a
-- statement asks is gathered in `Fair`, and in `Exceed` where the demand says so. Assumes nothing.
use Rattle.std.specs.Prelude.{ℕ, zero, suc, ◌+◌, ◌*◌, ◌%◌, ◌≤◌, ◌≡◌, true, cond, ◌⊎◌, List, [], ◌∷◌, ◌++◌, eqb, get_or, replicate, set as put, Some}
use Rattle.clock.specs.declared.reading.VirtualLocalTime.{VirtualLocalTime}
use Rattle.clock.specs.declared.time.GlobalTime.{GlobalTime}
use Rattle.clock.specs.declared.base.TimeBase.{TimeBase}
use Rattle.clock.specs.Reading.{span_of}
use Rattle.clock.specs.Time.{nanoseconds_of, advanced}
use Rattle.clock.specs.Base.{base_of}
use Rattle.frame_check.specs.declared.CheckMode.TheVariants.{Optional}
use Rattle.settings.specs.declared.domain_settings.Security.TheVariants.{Secured}
use Rattle.domain.specs.Updates.{next_update}
use Rattle.node_call.specs.Calls.{frame, set, cycle, confirm, numbered, answer_to}
use Rattle.history.specs.History.{
  Link,
  master_settings,
  slave_settings,
  on_master,
  on_slave,
  Event,
  at_master,
  at_slave,
  History,
  slave_after,
  slave_record,
  Sent,
  sent_in,
  is_heard,
  heard_in,
  In,
  is_fup,
  is_sync,
  counter_in,
}
use Rattle.history.specs.Demand.{
  Linked,
  Reads,
  AreCalls,
  CopyOf,
  Exceed,
  TimeOfOne,
  heard_since,
  Copy,
  arrivals,
  InRow,
  Fair,
}
use Rattle.history_day.specs.Met.{PairMet}
use Rattle.history_day.specs.Settings.{arrives, copy_of, slave_for, no_ids, millis, ms, plain_link, sets}
use Rattle.history_day.specs.Day.{day_link}
use Rattle.history_day.specs.Edges.{
  syncs,
  syncs_within,
  confirms,
  sync0,
  near_link,
  behind_fup,
  behind_before,
}

-- ---- The bounds E and C, and none.
abbrev pub by_e : Link → ℕ
by_e k = k.e

abbrev pub by_c : Link → ℕ
by_c k = (master_settings k).confirmation_time

abbrev pub by_none : Link → ℕ
by_none k = 0

-- ---- `TimeOfOne` with a place for the time of a SYNC and its FUP, for the bytes that were handed in at the base's
-- reading, and for the reading of the SYNC's copy; and with the time alone altered, and none.
pub record Tie : Type 0 where
  pub time : Sent → Sent → GlobalTime
  pub handed : Sent → Sent → List ℕ
  pub came : Sent → TimeBase → VirtualLocalTime

abbrev pub carried_on : (sync fup : Sent) → GlobalTime
carried_on sync fup = advanced sync.time (span_of sync.at fup.at)

abbrev pub timed : (Sent → Sent → GlobalTime) → Tie
timed time = record { time = time; handed = λ sync fup. sync.bytes; came = λ sync b. b.at }

abbrev pub unaltered : Tie
unaltered = timed carried_on

pub record TimeOf (t : Tie) (k : Link) (h : History) (b : TimeBase) : Type 0 where
  pub sync : Sent
  pub fup : Sent
  pub newer : List Sent
  pub older : List Sent
  pub sent : sent_in k h ≡ newer ++ (fup ∷ sync ∷ older)
  pub is_a_sync : is_sync sync ≡ true
  pub is_a_fup : is_fup fup ≡ true
  pub time : b.time ≡ t.time sync fup
  pub after : History
  pub before : History
  pub copy : h ≡ after ++ (at_slave (frame b.at (t.handed sync fup)) ∷ before)
  pub copied : CopyOf k before sync (record { bytes = sync.bytes; at = t.came sync b })

-- ---- `EachTimeHeld`
abbrev pub HeldBy : Tie → Type 0
HeldBy t =
    (k : Link) → Exceed k → (h : History) → Fair k h →
    (b : TimeBase) → (slave_record k h).base ≡ Some b → TimeOf t k h b

abbrev pub BaseAtTheSync : Type 0
BaseAtTheSync = HeldBy (timed (λ sync fup. record { 0 = sync.time.0; 1 = 0 }))

abbrev pub OvsDropped : Type 0
OvsDropped = HeldBy (timed (λ sync fup. record { 0 = sync.time.0; 1 = (carried_on sync fup).1 }))

abbrev pub TimeSetAfterTheSync : Type 0
TimeSetAfterTheSync = HeldBy (timed (λ sync fup. fup.time))

abbrev pub TiedToTheFup : Type 0
TiedToTheFup = HeldBy (record { time = carried_on; handed = λ sync fup. fup.bytes; came = λ sync b. b.at })

-- ---- `EachTimeHeld` with copies up to E, or to twice E, after their sending: those of another link
abbrev pub twice_e : Link → Link
twice_e k =
    record {
      master = k.master;
      slave = k.slave;
      domain = k.domain;
      master_adds = k.master_adds;
      slave_adds = k.slave_adds;
      e = k.e + k.e;
    }

abbrev pub HeldOver : (Link → Link) → Type 0
HeldOver over =
    (k : Link) → Exceed k → (h : History) → Fair (over k) h →
    (b : TimeBase) → (slave_record (over k) h).base ≡ Some b → TimeOfOne (over k) h b

abbrev pub CopyUpToTwiceE : Type 0
CopyUpToTwiceE = HeldOver twice_e

-- ---- `EachTimeNear`
pub record Off (slow fast : ℕ) (k : Link) (b : TimeBase) (sync : Sent) : Type 0 where
  pub behind :
      nanoseconds_of sync.time + on_slave k b.at ≤ nanoseconds_of b.time + on_master k sync.at + slow
  pub ahead :
      nanoseconds_of b.time + on_master k sync.at ≤ nanoseconds_of sync.time + on_slave k b.at + fast

abbrev pub NearBy : Tie → (behind ahead : Link → ℕ) → Type 0
NearBy t behind ahead =
    (k : Link) (h : History) → Fair k h →
    (b : TimeBase) (one : TimeOf t k h b) → Off (behind k) (ahead k) k b one.sync

abbrev pub NeverBehind : Type 0
NeverBehind = NearBy unaltered by_none by_c

abbrev pub NeverAhead : Type 0
NeverAhead = NearBy unaltered by_e by_none

abbrev pub any_reading : Tie
any_reading = record { time = carried_on; handed = λ sync fup. sync.bytes; came = λ sync b. sync.at }

abbrev pub TiedAtAnyReading : Type 0
TiedAtAnyReading = NearBy any_reading by_e by_c

abbrev pub HeldAtAnyReading : Type 0
HeldAtAnyReading = HeldBy any_reading

-- ---- `EachSyncOne`
abbrev pub OneBy : (Sent → TimeBase → VirtualLocalTime) → Type 0
OneBy came =
    (k : Link) → Exceed k → (h : History) → Fair k h → (b : TimeBase) (one : TimeOfOne k h b) → (other : Sent) →
    CopyOf k one.before other (record { bytes = one.sync.bytes; at = came other b }) → other ≡ one.sync

abbrev pub AllAlikeAreCopied : Type 0
AllAlikeAreCopied = OneBy (λ other b. other.at)

-- ---- `EachFupConfirms`
pub record ConfirmsBy (within up : ℕ) (fup : Sent) (older : List Sent) : Type 0 where
  pub sync : Sent
  pub rest : List Sent
  pub next : older ≡ sync ∷ rest
  pub is_a_sync : is_sync sync ≡ true
  pub counter : counter_in fup ≡ counter_in sync + up
  pub not_before : sync.at.0 ≤ fup.at.0
  pub in_time : fup.at.0 ≤ sync.at.0 + within

abbrev pub EachConfirmsBy : (within : Link → ℕ) (up : ℕ) → Type 0
EachConfirmsBy within up =
    (k : Link) (h : History) → Fair k h → (newer older : List Sent) (fup : Sent) →
    sent_in k h ≡ newer ++ (fup ∷ older) → is_fup fup ≡ true → ConfirmsBy (within k) up fup older

abbrev pub ConfirmedAtTheSync : Type 0
ConfirmedAtTheSync = EachConfirmsBy by_none 0

abbrev pub CounterOfTheNextSync : Type 0
CounterOfTheNextSync = EachConfirmsBy by_c 1

-- ---- `EachPairTaken`: the number that is answered, and the calls up to which the base is looked at
pub record TakenBy
    (answered : Link → Copy → ℕ) (up_to : Event → History → History)
    (k : Link) (moment : ℕ) (h : History) (fup sync : Copy) (older : List Copy) : Type 0 where
  pub after : History
  pub before : History
  pub call : h ≡ after ++ (at_slave (frame fup.at fup.of.bytes) ∷ before)
  pub next : heard_since k moment (heard_in k before) ≡ arrivals (sync ∷ older)
  pub number : answer_to (slave_after k before) (frame fup.at fup.of.bytes) ≡ numbered (answered k sync)
  pub base :
      (slave_record k (up_to (at_slave (frame fup.at fup.of.bytes)) before)).base
      ≡ Some (base_of (carried_on sync.of fup.of) sync.at)
  pub updates :
      (slave_record k (at_slave (frame fup.at fup.of.bytes) ∷ before)).updates
      ≡ next_update (slave_record k before).updates

abbrev pub EachTakenBy : (Link → Copy → ℕ) → (Event → History → History) → Type 0
EachTakenBy answered up_to =
    (k : Link) (h : History) (moment : ℕ) (newer : List Copy) (fup sync : Copy) (older : List Copy) →
    PairMet k h moment newer fup sync older → InRow k moment (slave_settings k).hysteresis sync older →
    TakenBy answered up_to k moment h fup sync older

abbrev pub zeroes : Link → Copy → ℕ
zeroes k sync = 0

abbrev pub with_call : Event → History → History
with_call call before = call ∷ before

abbrev pub FirstPairOnly : Type 0
FirstPairOnly = EachTakenBy zeroes (λ call before. before)

abbrev pub NoModulo : Type 0
NoModulo = EachTakenBy (λ k sync. cond (eqb (get_or sync.of.bytes 2 0) (k.domain * 16)) 7 0) with_call

-- ---- `EachFrameHeard`
abbrev pub HeardIf : (Link → Type 0) → Type 0
HeardIf Read =
    (k : Link) → Linked k → Read k → (h : History) → AreCalls h → (s : Sent) → In s (sent_in k h) →
    is_heard k s.bytes ≡ true

abbrev pub AnyListsRead : Type 0
AnyListsRead =
    HeardIf (λ k. Reads k ⊎ (((master_settings k).security ≡ Secured) × ((slave_settings k).mode ≡ Optional)))

-- ---- As the link of `follow_up_edge`, but E is 500 ms: there the copy of SYNC 0 comes twice that late.
abbrev pub half_link : Link
half_link = plain_link 100 500 600 2000 50

-- ---- A SYNC at 1000.999999999 s, the time set anew, the confirmation 1 ns after the SYNC; the pair arrives.
abbrev pub set_sync : Sent
set_sync = record { bytes = sync0; at = ms 1000; time = record { 0 = 1000; 1 = 999999999 } }

abbrev pub set_fup : Sent
set_fup =
    record {
      bytes = 0x18 ∷ 0x00 ∷ 0x00 ∷ 0x01 ∷ 0x00 ∷ 0x00 ∷ 0x00 ∷ 0x00 ∷ [];
      at = record { 0 = millis 1000 + 1 };
      time = record { 0 = 2000; 1 = 1 };
    }

abbrev pub set_day : History
set_day =
    arrives 1002 set_fup.bytes
    ∷ arrives 1001 sync0
    ∷ at_master (confirm 0 set_fup.at 0 (replicate 8 0))
    ∷ at_master (set 0 (ms 1000) 2000 0)
    ∷ syncs_within 0 1 ++ (at_master (set 0 (ms 1000) 1000 999999999) ∷ [])

abbrev pub set_base : TimeBase
set_base = record { time = record { 0 = 1001; 1 = 0 }; at = ms 1001 }

-- ---- The slave's clock is 500 ms behind the master's, E 100 ms; a pair arrives. SYNC 0's reading, taken for one of
-- the slave's, is 500 ms after its sending.
abbrev pub clocks_link : Link
clocks_link =
    record {
      master = near_link.master;
      slave = near_link.slave;
      domain = 0;
      master_adds = 0;
      slave_adds = millis 500;
      e = near_link.e;
    }

abbrev pub clocks_day : History
clocks_day = arrives 502 behind_fup.bytes ∷ arrives 501 sync0 ∷ behind_before

abbrev pub clocks_base : TimeBase
clocks_base = record { time = record { 0 = 1000; 1 = 0 }; at = ms 501 }

-- ---- P 10 ms: SYNC n as it is sent, and so many of them from one on
abbrev pub sync_within : (n : ℕ) → Sent
sync_within n =
    record {
      bytes = 0x10 ∷ 0x00 ∷ n % 16 ∷ 0x00 ∷ 0x00 ∷ 0x00 ∷ 0x03 ∷ 0xE8 ∷ [];
      at = ms (1000 + 10 * n);
      time = record { 0 = 1000; 1 = millis (10 * n) };
    }

abbrev pub sent_within : (first count : ℕ) → List Sent
sent_within first zero = []
sent_within first (suc count) = sync_within (first + count) ∷ sent_within first count

-- ---- P 10 ms: of SYNCs 0 to 16 the pair of SYNC 16 is taken, which has the bytes of SYNC 0.
abbrev pub alike_fup : Sent
alike_fup =
    record {
      bytes = 0x18 ∷ 0x00 ∷ 0x00 ∷ 0x00 ∷ 0x09 ∷ 0x89 ∷ 0x68 ∷ 0x00 ∷ [];
      at = ms 1160;
      time = record { 0 = 1000; 1 = 160000000 };
    }

abbrev pub alike_before : History
alike_before = confirms 1160 0 ∷ syncs_within 0 17 ++ (sets ∷ [])

abbrev pub alike_day : History
alike_day = arrives 1160 alike_fup.bytes ∷ arrives 1160 sync0 ∷ alike_before

abbrev pub alike_base : TimeBase
alike_base = record { time = record { 0 = 1000; 1 = 160000000 }; at = ms 1160 }

-- ---- The counter goes round: of SYNCs 0 to 15 the last arrives and its pair is taken, then that of SYNC 16, sent L
-- after it.
abbrev pub round_moment : ℕ
round_moment = millis 2500

abbrev pub round_fup : Copy
round_fup = copy_of (0x18 ∷ 0x00 ∷ 0x00 ∷ 0x00 ∷ 0x1D ∷ 0xCD ∷ 0x65 ∷ 0x00 ∷ []) 4500 4500 1003 500000000

abbrev pub round_sync : Copy
round_sync = copy_of (0x10 ∷ 0x00 ∷ 0x00 ∷ 0x00 ∷ 0x00 ∷ 0x00 ∷ 0x03 ∷ 0xEB ∷ []) 4500 4500 1003 500000000

abbrev fup15 : Copy
fup15 = copy_of (0x18 ∷ 0x00 ∷ 0x0F ∷ 0x00 ∷ 0x1D ∷ 0xCD ∷ 0x65 ∷ 0x00 ∷ []) 2500 2500 1001 500000000

abbrev sync15 : Copy
sync15 = copy_of (0x10 ∷ 0x00 ∷ 0x0F ∷ 0x00 ∷ 0x00 ∷ 0x00 ∷ 0x03 ∷ 0xE9 ∷ []) 2500 2500 1001 500000000

abbrev pub round_older : List Copy
round_older = fup15 ∷ sync15 ∷ []

abbrev pub round_before : History
round_before =
    arrives 4500 round_sync.of.bytes
    ∷ confirms 4500 0
    ∷ syncs 35 1
    ++ (arrives 2500 fup15.of.bytes
    ∷ confirms 2500 15
    ∷ arrives 2500 sync15.of.bytes
    ∷ syncs 0 16 ++ (sets ∷ []))

abbrev pub round_earlier : TimeBase
round_earlier = record { time = record { 0 = 1001; 1 = 500000000 }; at = ms 2500 }

abbrev pub round_day : History
round_day = arrives 4500 round_fup.of.bytes ∷ round_before

-- ---- The day's master, and a slave of mode optional whose DataIDs are all 0; its first SYNC.
abbrev pub lists_link : Link
lists_link =
    record {
      master = day_link.master;
      slave =
          record {
            syncs_per_cycle = 1;
            domains = put day_link.slave.domains 5 (slave_for 1 0 (millis 300) (millis 2500) Optional no_ids);
          };
      domain = 5;
      master_adds = day_link.master_adds;
      slave_adds = day_link.slave_adds;
      e = day_link.e;
    }

abbrev pub lists_day : History
lists_day = at_master (cycle (ms 10000) (replicate 16 0)) ∷ at_master (set 5 (ms 10000) 1000 0) ∷ []

abbrev pub lists_sync : Sent
lists_sync =
    record {
      bytes = 0x20 ∷ 0xF0 ∷ 0x50 ∷ 0x11 ∷ 0x00 ∷ 0x00 ∷ 0x03 ∷ 0xE8 ∷ [];
      at = ms 10000;
      time = record { 0 = 1000; 1 = 0 };
    }
