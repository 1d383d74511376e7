-- Paper 01, "Cases at the edges": P1 to P12, one list and one statement over it. Assumes nothing.
use Rattle.std.specs.Prelude.{ℕ, ◌+◌, ◌≡◌, List, [], ◌∷◌, replicate}
use Rattle.clock.specs.declared.reading.VirtualLocalTime.{VirtualLocalTime}
use Rattle.settings.specs.declared.node_settings.NodeSettings.{NodeSettings}
use Rattle.call_read.specs.declared.Shown.{Shown}
use Rattle.node.specs.New.{new_of}
use Rattle.bench_settings.specs.Bench.{bench_with}
use Rattle.node_call.specs.Calls.{
  Call,
  frame,
  read,
  set,
  cycle,
  confirm,
  Answer,
  numbered,
  shows,
  sends,
  follows,
  answers_to,
}

-- ---- calls; plain frames for domain 1
abbrev reading : ℕ → VirtualLocalTime
reading t = record { 0 = t }

abbrev sync_at : (t counter : ℕ) → Call
sync_at t counter = frame (reading t) (0x10 ∷ 0 ∷ (0x10 + counter) ∷ 0 ∷ 0 ∷ 0 ∷ 0 ∷ 100 ∷ [])

abbrev fup_at : (t counter : ℕ) → Call
fup_at t counter = frame (reading t) (0x18 ∷ 0 ∷ (0x10 + counter) ∷ 0 ∷ 0 ∷ 0 ∷ 0 ∷ 100 ∷ [])

abbrev bench_fup : (t : ℕ) → Call
bench_fup t = frame (reading t) (0x18 ∷ 0x00 ∷ 0x11 ∷ 0x00 ∷ 0x00 ∷ 0x00 ∷ 0x00 ∷ 0x64 ∷ [])

-- ---- "the seven lines above"
abbrev pub bench_calls : List Call
bench_calls =
    frame (reading 5000000000) (0x10 ∷ 0xBB ∷ 0x11 ∷ 0xAA ∷ 0x00 ∷ 0x00 ∷ 0x0E ∷ 0x10 ∷ [])
    ∷ bench_fup 5010000000
    ∷ read 1 (reading 6010000000)
    ∷ bench_fup 6020000000
    ∷ set 2 (reading 7000000000) 100 999999000
    ∷ cycle (reading 7000000000) (replicate 8 0)
    ∷ confirm 2 (reading 7000500000) 0 (replicate 8 0)
    ∷ []

abbrev bench_shown : Shown
bench_shown =
    record {
      time = record { 0 = 3601; 1 = 10000100 };
      status = 0x08;
      user = record { 0 = 0xAA; 1 = 0xBB; 2 = 0 };
      updates = 1;
    }

abbrev bench_answers : List Answer
bench_answers =
    numbered 0
    ∷ numbered 0
    ∷ shows 0 bench_shown
    ∷ numbered 7
    ∷ numbered 0
    ∷ sends 0 1 (0x10 ∷ 0x00 ∷ 0x20 ∷ 0x00 ∷ 0x00 ∷ 0x00 ∷ 0x00 ∷ 0x64 ∷ [])
    ∷ follows 0 (0x18 ∷ 0x00 ∷ 0x20 ∷ 0x01 ∷ 0x00 ∷ 0x07 ∷ 0x9D ∷ 0x38 ∷ [])
    ∷ []

-- ---- A run from a fresh node, which shows the cases `first` to `last`.
pub record Case : Type 0 where
  pub first : ℕ
  pub last : ℕ
  pub settings : NodeSettings
  pub calls : List Call
  pub answers : List Answer

-- a case of two frames: the first is taken
abbrev two : (case j : ℕ) (one other : Call) (number : ℕ) → Case
two case j one other number =
    record {
      first = case;
      last = case;
      settings = bench_with j;
      calls = one ∷ other ∷ [];
      answers = numbered 0 ∷ numbered number ∷ [];
    }

-- ---- P1 to P7, then "P8: last counter 15, J 1, SYNC counter 0: good. P9: last 0, J 2, counter 3: 6. P10:
-- equal counter: 6. All three within L. P11: FUP exactly F after T2: taken. P12: F + 1: 7."
abbrev pub cases : List Case
cases =
    record { first = 1; last = 7; settings = bench_with 2; calls = bench_calls; answers = bench_answers }
    ∷ two 8 1 (sync_at 1000000000 15) (sync_at 2000000000 0) 0
    ∷ two 9 2 (sync_at 1000000000 0) (sync_at 2000000000 3) 6
    ∷ two 10 2 (sync_at 1000000000 5) (sync_at 2000000000 5) 6
    ∷ two 11 2 (sync_at 1000000000 5) (fup_at 1100000000 5) 0
    ∷ two 12 2 (sync_at 1000000000 5) (fup_at 1100000001 5) 7
    ∷ []

-- ---- every case's answers are the expected ones
abbrev pub AsExpected : List Case → Type 0
AsExpected [] = Unit {0}
AsExpected (c ∷ rest) = (answers_to (new_of c.settings).node c.calls ≡ c.answers) × AsExpected rest
