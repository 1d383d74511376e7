-- Demand 3 of paper 01: a day of a master and a slave that meets its hypotheses. The bus loses, repeats and
-- reorders frames; from a moment on it is orderly, but for junk of other domains. Assumes nothing.
use Rattle.std.specs.Prelude.{ℕ, List, [], ◌∷◌, ◌++◌, replicate, set as put}
use Rattle.clock.specs.declared.base.TimeBase.{TimeBase}
use Rattle.frame.specs.declared.data_ids.DataIds.{DataIds}
use Rattle.frame_check.specs.declared.CheckMode.TheVariants.{Validated, NotValidated}
use Rattle.settings.specs.declared.domain_settings.DomainSettings.{DomainSettings}
use Rattle.settings.specs.declared.domain_settings.Security.TheVariants.{Plain, Secured}
use Rattle.settings.specs.Domain.{as_master}
use Rattle.node_call.specs.Calls.{read, set, cycle}
use Rattle.history.specs.History.{Link, Event, at_master, at_slave, History}
use Rattle.history.specs.Demand.{Copy}
use Rattle.history_day.specs.Settings.{arrives, confirms_in, copy_of, slave_for, absents, no_ids, millis, ms}

-- ---- domain 5: P 1 s, C 200 ms, secured; J 1, F 300 ms, L 2.5 s, validated; the same DataIDs
abbrev day_ids : DataIds
day_ids =
    record {
      sync =
          0xA0 ∷ 0xA1 ∷ 0xA2 ∷ 0xA3 ∷ 0xA4 ∷ 0xA5 ∷ 0xA6 ∷ 0xA7
          ∷ 0xA8 ∷ 0xA9 ∷ 0xAA ∷ 0xAB ∷ 0xAC ∷ 0xAD ∷ 0xAE ∷ 0xAF ∷ [];
      fup =
          0x50 ∷ 0x51 ∷ 0x52 ∷ 0x53 ∷ 0x54 ∷ 0x55 ∷ 0x56 ∷ 0x57
          ∷ 0x58 ∷ 0x59 ∷ 0x5A ∷ 0x5B ∷ 0x5C ∷ 0x5D ∷ 0x5E ∷ 0x5F ∷ [];
    }

abbrev day_master : DomainSettings
day_master = as_master (millis 1000) (millis 200) Secured (record { 0 = 0x11; 1 = 0x22; 2 = 0x33 }) day_ids

abbrev day_slave : DomainSettings
day_slave = slave_for 1 0 (millis 300) (millis 2500) Validated day_ids

-- ---- the master's node is master of domain 9 too, S 2; the slave's node is slave of domain 6 too
abbrev other_master : DomainSettings
other_master = as_master (millis 1000) (millis 200) Plain (record { 0 = 0x44; 1 = 0x55; 2 = 0x66 }) no_ids

abbrev other_slave : DomainSettings
other_slave = slave_for 2 0 (millis 300) (millis 2500) NotValidated no_ids

-- ---- the slave's clock is 100 s ahead of the master's; E 15 s
abbrev pub day_link : Link
day_link =
    record {
      master = record { syncs_per_cycle = 2; domains = put (put absents 5 day_master) 9 other_master };
      slave = record { syncs_per_cycle = 1; domains = put (put absents 5 day_slave) 6 other_slave };
      domain = 5;
      master_adds = millis 100000;
      slave_adds = 0;
      e = millis 15000;
    }

-- ---- the domain's frames
abbrev sync0 : List ℕ
sync0 = 0x20 ∷ 0xF0 ∷ 0x50 ∷ 0x11 ∷ 0x00 ∷ 0x00 ∷ 0x03 ∷ 0xE8 ∷ []

abbrev fup0 : List ℕ
fup0 = 0x28 ∷ 0x26 ∷ 0x50 ∷ 0x01 ∷ 0x02 ∷ 0xFA ∷ 0xF0 ∷ 0x80 ∷ []

abbrev sync1 : List ℕ
sync1 = 0x20 ∷ 0xF9 ∷ 0x51 ∷ 0x11 ∷ 0x00 ∷ 0x00 ∷ 0x07 ∷ 0xD0 ∷ []

abbrev fup1 : List ℕ
fup1 = 0x28 ∷ 0x78 ∷ 0x51 ∷ 0x01 ∷ 0x04 ∷ 0x2C ∷ 0x1D ∷ 0x80 ∷ []

abbrev sync2 : List ℕ
sync2 = 0x20 ∷ 0x52 ∷ 0x52 ∷ 0x11 ∷ 0x00 ∷ 0x00 ∷ 0x07 ∷ 0xD1 ∷ []

abbrev sync4 : List ℕ
sync4 = 0x20 ∷ 0x2B ∷ 0x54 ∷ 0x11 ∷ 0x00 ∷ 0x00 ∷ 0x07 ∷ 0xD3 ∷ []

abbrev fup4 : List ℕ
fup4 = 0x28 ∷ 0xBE ∷ 0x54 ∷ 0x01 ∷ 0x04 ∷ 0x2C ∷ 0x1D ∷ 0x80 ∷ []

abbrev sync5 : List ℕ
sync5 = 0x20 ∷ 0xD8 ∷ 0x55 ∷ 0x11 ∷ 0x00 ∷ 0x00 ∷ 0x07 ∷ 0xD5 ∷ []

abbrev fup5 : List ℕ
fup5 = 0x28 ∷ 0x65 ∷ 0x55 ∷ 0x01 ∷ 0x04 ∷ 0x2C ∷ 0x1D ∷ 0x80 ∷ []

-- ---- calls of the day, their readings in milliseconds
abbrev cycles : (t : ℕ) → Event
cycles t = at_master (cycle (ms t) (replicate 16 0))

abbrev confirms : (t counter : ℕ) → Event
confirms t counter = confirms_in 5 t counter

-- ---- The domain is set, sends, is set again before the confirmation; the pair arrives, and its FUP once more.
abbrev first_pair : History
first_pair =
    at_slave (read 5 (ms 110300))
    ∷ arrives 110210 fup0
    ∷ arrives 110200 fup0
    ∷ confirms 10100 0
    ∷ arrives 110060 sync0
    ∷ at_master (set 5 (ms 10030) 2000 0)
    ∷ cycles 10000
    ∷ at_master (set 9 (ms 10000) 50 0)
    ∷ at_master (set 5 (ms 10000) 1000 950000000)
    ∷ []

-- ---- A main cycle with none due. SYNC 1 is 1.5 s late: its FUP and SYNC 2, which is not confirmed, come before
-- it. Its FUP comes again.
abbrev late_pair : History
late_pair =
    arrives 112600 fup1
    ∷ arrives 112500 sync1
    ∷ arrives 112010 sync2
    ∷ cycles 12000
    ∷ arrives 111200 fup1
    ∷ confirms 11100 1
    ∷ cycles 11000
    ∷ cycles 10500
    ∷ first_pair

-- ---- Junk: a pair of domain 6, a frame of 7 bytes, an unknown type, a frame of domain 9, a wrong check byte. SYNC
-- 3 and its FUP are lost.
abbrev lost_pair : History
lost_pair =
    confirms 13100 3
    ∷ cycles 13000
    ∷ arrives 112750 (0x20 ∷ 0x53 ∷ 0x52 ∷ 0x11 ∷ 0x00 ∷ 0x00 ∷ 0x07 ∷ 0xD1 ∷ [])
    ∷ arrives 112740 (0x10 ∷ 0x55 ∷ 0x92 ∷ 0x44 ∷ 0x00 ∷ 0x00 ∷ 0x00 ∷ 0x34 ∷ [])
    ∷ arrives 112730 (0x40 ∷ 0x52 ∷ 0x52 ∷ 0x11 ∷ 0x00 ∷ 0x00 ∷ 0x07 ∷ 0xD1 ∷ [])
    ∷ arrives 112720 (0x20 ∷ 0x52 ∷ 0x52 ∷ 0x11 ∷ 0x00 ∷ 0x00 ∷ 0x07 ∷ [])
    ∷ arrives 112710 (0x18 ∷ 0x99 ∷ 0x63 ∷ 0x00 ∷ 0x00 ∷ 0x00 ∷ 0x00 ∷ 0x08 ∷ [])
    ∷ arrives 112700 (0x10 ∷ 0x77 ∷ 0x63 ∷ 0x88 ∷ 0x00 ∷ 0x00 ∷ 0x00 ∷ 0x07 ∷ [])
    ∷ late_pair

-- ---- The moment, 113.5 s on the scale, and then: SYNC 4 and its FUP, SYNC 5 and its FUP, SYNC 6 under way.
abbrev pub day_moment : ℕ
day_moment = millis 113500

abbrev pub day : History
day =
    cycles 17000
    ∷ arrives 116200 fup5
    ∷ arrives 116110 sync5
    ∷ confirms 16100 5
    ∷ cycles 16000
    ∷ arrives 114200 fup4
    ∷ confirms 14100 4
    ∷ arrives 114020 (0x10 ∷ 0x55 ∷ 0x94 ∷ 0x44 ∷ 0x00 ∷ 0x00 ∷ 0x00 ∷ 0x36 ∷ [])
    ∷ arrives 114010 sync4
    ∷ cycles 14000
    ∷ lost_pair

-- ---- What the calls are answered. The pairs 0, 1 and 5 are taken. FUP 0 again: 7; FUP 1 before its SYNC: 7; SYNC 2
-- after 0: 6; junk: 0, 0, 2, 3, 4, 5; SYNC 4 after 1: 6, its FUP: 7. When SYNC 5 comes, more than L has passed.
abbrev pub day_numbers : List ℕ
day_numbers =
    (0 ∷ 0 ∷ 0 ∷ 0 ∷ 0 ∷ 7 ∷ 0 ∷ 4 ∷ 6 ∷ 0 ∷ [])
    ++ (0 ∷ 0 ∷ 5 ∷ 4 ∷ 3 ∷ 2 ∷ 0 ∷ 0 ∷ [])
    ++ (0 ∷ 0 ∷ 6 ∷ 0 ∷ 7 ∷ 0 ∷ 0 ∷ 0 ∷ [])
    ++ (0 ∷ 7 ∷ 0 ∷ 0 ∷ 0 ∷ 0 ∷ 0 ∷ 0 ∷ 0 ∷ [])

-- ---- What arrives from the moment on: frames with the readings of their sending and arrival, and the master's
-- time at the sending.
abbrev pub copy_fup5 : Copy
copy_fup5 = copy_of fup5 16100 116200 2006 70000000

abbrev pub copy_sync5 : Copy
copy_sync5 = copy_of sync5 16000 116110 2005 970000000

abbrev pub copies_before : List Copy
copies_before = copy_of fup4 14100 114200 2004 70000000 ∷ copy_of sync4 14000 114010 2003 970000000 ∷ []

-- ---- What the slave holds at the end: SYNC 5's time, 2005.97 s, carried on by 100 ms, at its copy's reading.
abbrev pub day_base : TimeBase
day_base = record { time = record { 0 = 2006; 1 = 70000000 }; at = ms 116110 }
