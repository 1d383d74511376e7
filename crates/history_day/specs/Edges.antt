-- Demand 3 of paper 01: histories where 16 sending periods do not exceed, but equal, the one sum and exceed the
-- other, and the slave takes a FUP with the SYNC of 16 periods before or after: over seconds, and within one second,
-- where the two SYNCs are byte for byte the same. One where a pair's SYNC arrives a nanosecond before the moment plus
-- L, and the pair is not taken. And some that meet all: one with a time that another slave might hold, one with a
-- time that is E behind, one with a time that is C ahead. Assumes nothing.
use Rattle.std.specs.Prelude.{ℕ, zero, suc, ◌+◌, List, [], ◌∷◌, ◌++◌}
use Rattle.clock.specs.declared.base.TimeBase.{TimeBase}
use Rattle.history.specs.History.{Link, Event, History, Sent}
use Rattle.history.specs.Demand.{Copy}
use Rattle.history_day.specs.Settings.{arrives, confirms_in, copy_of, millis, ms, plain_link, sets, sync_after}

-- ---- the links: L 2 s
abbrev edge_with : (p e f c : ℕ) → Link
edge_with p e f c = plain_link p e f 2000 c

-- ---- so many SYNCs, from one on
abbrev syncs_every : (p first count : ℕ) → History
syncs_every p first zero = []
syncs_every p first (suc count) = sync_after p (first + count) ∷ syncs_every p first count

abbrev pub syncs : (first count : ℕ) → History
syncs = syncs_every 100

abbrev pub syncs_within : (first count : ℕ) → History
syncs_within = syncs_every 10

abbrev pub confirms : (t counter : ℕ) → Event
confirms t counter = confirms_in 0 t counter

-- ---- SYNC 0, of 1000.0 s, and SYNC 16, of 1001.6 s
abbrev pub sync0 : List ℕ
sync0 = 0x10 ∷ 0x00 ∷ 0x00 ∷ 0x00 ∷ 0x00 ∷ 0x00 ∷ 0x03 ∷ 0xE8 ∷ []

abbrev sync16 : List ℕ
sync16 = 0x10 ∷ 0x00 ∷ 0x00 ∷ 0x00 ∷ 0x00 ∷ 0x00 ∷ 0x03 ∷ 0xE9 ∷ []

-- ---- E plus F: SYNC 0 arrives E after it was sent, SYNC 16 is lost, its FUP arrives at once, F after SYNC 0. What
-- the slave then holds: the seconds of SYNC 0 with the nanoseconds of SYNC 16.
abbrev pub follow_up_link : Link
follow_up_link = edge_with 100 1000 600 50

abbrev pub follow_up_edge : History
follow_up_edge =
    arrives 2600 (0x18 ∷ 0x00 ∷ 0x00 ∷ 0x00 ∷ 0x23 ∷ 0xC3 ∷ 0x46 ∷ 0x00 ∷ [])
    ∷ confirms 2600 0
    ∷ syncs 11 6 ++ (arrives 2000 sync0 ∷ syncs 0 11 ++ (sets ∷ []))

abbrev pub follow_up_base : TimeBase
follow_up_base = record { time = record { 0 = 1000; 1 = 600000000 }; at = ms 2000 }

-- ---- E plus C: SYNC 0 is lost, its confirmation comes C after it was sent, that FUP arrives E later, when SYNC
-- 16 has just arrived. What the slave then holds: the seconds of SYNC 16 with the nanoseconds of FUP 0.
abbrev pub confirmation_link : Link
confirmation_link = edge_with 100 1540 50 60

abbrev pub confirmation_edge : History
confirmation_edge =
    arrives 2600 (0x18 ∷ 0x00 ∷ 0x00 ∷ 0x00 ∷ 0x03 ∷ 0x93 ∷ 0x87 ∷ 0x00 ∷ [])
    ∷ arrives 2600 sync16
    ∷ syncs 1 16 ++ (confirms 1060 0 ∷ syncs 0 1 ++ (sets ∷ []))

abbrev pub confirmation_base : TimeBase
confirmation_base = record { time = record { 0 = 1001; 1 = 60000000 }; at = ms 2600 }

-- ---- Within one second: P 10 ms, so SYNC 16, of 1000.16 s, has the bytes of SYNC 0. E plus F as before: the slave
-- holds the time of SYNC 16 at the copy of SYNC 0, which came before SYNC 16 was sent.
abbrev pub follow_up_within_link : Link
follow_up_within_link = edge_with 10 155 5 4

abbrev pub follow_up_within_edge : History
follow_up_within_edge =
    arrives 1160 (0x18 ∷ 0x00 ∷ 0x00 ∷ 0x00 ∷ 0x09 ∷ 0x89 ∷ 0x68 ∷ 0x00 ∷ [])
    ∷ confirms 1160 0
    ∷ syncs_within 16 1 ++ (arrives 1155 sync0 ∷ syncs_within 0 16 ++ (sets ∷ []))

abbrev pub follow_up_within_base : TimeBase
follow_up_within_base = record { time = record { 0 = 1000; 1 = 160000000 }; at = ms 1155 }

-- ---- E plus C as before: the slave holds the time of SYNC 0 at the copy of SYNC 16, 5 ms too late to be SYNC 0's.
abbrev fup0 : List ℕ
fup0 = 0x18 ∷ 0x00 ∷ 0x00 ∷ 0x00 ∷ 0x00 ∷ 0x4C ∷ 0x4B ∷ 0x40 ∷ []

abbrev pub confirmation_within_link : Link
confirmation_within_link = edge_with 10 155 4 5

abbrev pub confirmation_within_edge : History
confirmation_within_edge =
    arrives 1160 fup0
    ∷ arrives 1160 sync0
    ∷ syncs_within 1 16 ++ (confirms 1005 0 ∷ syncs_within 0 1 ++ (sets ∷ []))

abbrev pub confirmation_within_base : TimeBase
confirmation_within_base = record { time = record { 0 = 1000; 1 = 5000000 }; at = ms 1160 }

-- ---- Another slave: 16 periods exceed, pair 0 is taken, SYNC 16 arrives at once, with the bytes of SYNC 0, and is
-- refused. What the slave holds, and what one would hold that tied the time of pair 0 anew to the reading at SYNC 16.
abbrev pub anew_link : Link
anew_link = edge_with 10 100 4 5

abbrev pub anew_day : History
anew_day =
    arrives 1160 sync0
    ∷ syncs_within 1 16
    ++ (arrives 1006 fup0 ∷ confirms 1005 0 ∷ arrives 1003 sync0 ∷ syncs_within 0 1 ++ (sets ∷ []))

abbrev pub anew_held : TimeBase
anew_held = record { time = record { 0 = 1000; 1 = 5000000 }; at = ms 1003 }

abbrev pub anew_base : TimeBase
anew_base = record { time = record { 0 = 1000; 1 = 5000000 }; at = ms 1160 }

-- ---- How far off: SYNC 0 is confirmed at once, and its copy comes E later; its copy comes at once, and it is
-- confirmed C later.
abbrev pub near_link : Link
near_link = edge_with 10 100 5 5

abbrev pub near_sync : Sent
near_sync = record { bytes = sync0; at = ms 1000; time = record { 0 = 1000; 1 = 0 } }

abbrev pub behind_fup : Sent
behind_fup =
    record {
      bytes = 0x18 ∷ 0x00 ∷ 0x00 ∷ 0x00 ∷ 0x00 ∷ 0x00 ∷ 0x00 ∷ 0x00 ∷ [];
      at = ms 1000;
      time = record { 0 = 1000; 1 = 0 };
    }

abbrev pub behind_before : History
behind_before = confirms 1000 0 ∷ syncs_within 0 1 ++ (sets ∷ [])

abbrev pub behind_day : History
behind_day = arrives 1100 behind_fup.bytes ∷ arrives 1100 sync0 ∷ behind_before

abbrev pub behind_base : TimeBase
behind_base = record { time = record { 0 = 1000; 1 = 0 }; at = ms 1100 }

abbrev pub ahead_fup : Sent
ahead_fup = record { bytes = fup0; at = ms 1005; time = record { 0 = 1000; 1 = 5000000 } }

abbrev pub ahead_before : History
ahead_before = syncs_within 0 1 ++ (sets ∷ [])

abbrev pub ahead_day : History
ahead_day = arrives 1005 fup0 ∷ confirms 1005 0 ∷ arrives 1000 sync0 ∷ ahead_before

abbrev pub ahead_base : TimeBase
ahead_base = record { time = record { 0 = 1000; 1 = 5000000 }; at = ms 1000 }

-- ---- The loss time: SYNC 0 arrives 1 ns before the moment, SYNC 1 is lost. SYNC 2, sent late, arrives L after SYNC
-- 0, so 1 ns before the moment plus L; J is 1, and it is refused by 6, its FUP by 7.
abbrev pub loss_link : Link
loss_link = edge_with 100 1000 300 60

abbrev pub loss_moment : ℕ
loss_moment = millis 1200 + 1

abbrev pub loss_sync : Copy
loss_sync = copy_of (0x10 ∷ 0x00 ∷ 0x02 ∷ 0x00 ∷ 0x00 ∷ 0x00 ∷ 0x03 ∷ 0xEA ∷ []) 3000 3200 1002 0

abbrev pub loss_fup : Copy
loss_fup = copy_of (0x18 ∷ 0x00 ∷ 0x02 ∷ 0x00 ∷ 0x02 ∷ 0xFA ∷ 0xF0 ∷ 0x80 ∷ []) 3050 3250 1002 50000000

abbrev pub loss_edge : History
loss_edge =
    arrives 3250 loss_fup.of.bytes
    ∷ arrives 3200 loss_sync.of.bytes
    ∷ confirms 3050 2
    ∷ syncs 20 1 ++ (arrives 1200 sync0 ∷ syncs 0 2 ++ (sets ∷ []))
