-- Demand 3 with the row of paper 02, request 5: a history with H 2 where three SYNCs are a row and the pair of the
-- third is taken; its beginning, where the pair of the second, with one SYNC fewer before it, is not; and the same
-- beginning with H 1 and SYNCs that arrive more than L apart, where none is. Assumes nothing.
use Rattle.std.specs.Prelude.{ℕ, List, [], ◌∷◌, ◌++◌}
use Rattle.clock.specs.declared.base.TimeBase.{TimeBase}
use Rattle.history.specs.History.{Link, History}
use Rattle.history.specs.Demand.{Copy}
use Rattle.history_day.specs.Settings.{arrives, copy_of, millis, ms, row_link, sets}
use Rattle.history_day.specs.Edges.{syncs, confirms, sync0}

-- ---- P 100 ms, E 60 ms, F 50 ms, L 200 ms, C 60 ms; the moment is L before SYNC 0 arrives
abbrev pub two_link : Link
two_link = row_link 2 100 60 50 200 60

abbrev pub two_moment : ℕ
two_moment = millis 800

-- ---- SYNC 0, 1 and 2 arrive as they are sent, 100 ms apart; the FUPs of 1 and 2 arrive 10 ms later, as they are sent.
abbrev pub first_sync : Copy
first_sync = copy_of sync0 1000 1000 1000 0

abbrev pub second_sync : Copy
second_sync = copy_of (0x10 ∷ 0x00 ∷ 0x01 ∷ 0x00 ∷ 0x00 ∷ 0x00 ∷ 0x03 ∷ 0xE8 ∷ []) 1100 1100 1000 (millis 100)

abbrev pub second_fup : Copy
second_fup = copy_of (0x18 ∷ 0x00 ∷ 0x01 ∷ 0x00 ∷ 0x06 ∷ 0x8E ∷ 0x77 ∷ 0x80 ∷ []) 1110 1110 1000 (millis 110)

abbrev pub third_sync : Copy
third_sync = copy_of (0x10 ∷ 0x00 ∷ 0x02 ∷ 0x00 ∷ 0x00 ∷ 0x00 ∷ 0x03 ∷ 0xE8 ∷ []) 1200 1200 1000 (millis 200)

abbrev pub third_fup : Copy
third_fup = copy_of (0x18 ∷ 0x00 ∷ 0x02 ∷ 0x00 ∷ 0x0C ∷ 0x84 ∷ 0x58 ∷ 0x80 ∷ []) 1210 1210 1000 (millis 210)

abbrev pub two_begun : History
two_begun =
    arrives 1110 second_fup.of.bytes
    ∷ confirms 1110 1
    ∷ arrives 1100 second_sync.of.bytes
    ∷ syncs 1 1 ++ (arrives 1000 sync0 ∷ syncs 0 1 ++ (sets ∷ []))

abbrev pub two_day : History
two_day =
    arrives 1210 third_fup.of.bytes
    ∷ confirms 1210 2
    ∷ arrives 1200 third_sync.of.bytes
    ∷ syncs 2 1 ++ two_begun

-- ---- What the calls are answered, the newest first: 15 to SYNC 0, 15 to SYNC 1 and 7 to its FUP; 0 to all others.
abbrev pub begun_numbers : List ℕ
begun_numbers = 7 ∷ 0 ∷ 15 ∷ 0 ∷ 15 ∷ 0 ∷ 0 ∷ []

abbrev pub two_numbers : List ℕ
two_numbers = 0 ∷ 0 ∷ 0 ∷ 0 ∷ begun_numbers

-- ---- What the slave holds at the end: SYNC 2's time, 1000.2 s, carried on by 10 ms, at its copy's reading.
abbrev pub two_base : TimeBase
two_base = record { time = record { 0 = 1000; 1 = millis 210 }; at = ms 1200 }

-- ---- H 1, F 10 ms, L 50 ms: each SYNC comes when the one before it is forgotten
abbrev pub apart_link : Link
apart_link = row_link 1 100 60 10 50 60

abbrev pub apart_moment : ℕ
apart_moment = millis 950
