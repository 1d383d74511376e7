-- Paper 01, "Refusal numbers": "0 is success. The call tests in the order of the numbers, as far as each concerns
-- it." For each call its tests in that order, each with the number that it gives; paper 02, request 5, has 15 "after
-- 6". Assumes nothing.
use Rattle.std.specs.Prelude.{ℕ, ◌+◌, ◌*◌, ◌%◌, Bool, true, false, not, cond, ◌&&◌, List, [], ◌∷◌, leb, ltb, eqb, length, get_or, Err, None, Ok, Option, Result, Some}
use Rattle.clock.specs.declared.reading.VirtualLocalTime.{VirtualLocalTime}
use Rattle.clock.specs.Time.{is_nanoseconds}
use Rattle.frame.specs.declared.values.Fup.{Fup}
use Rattle.frame.specs.declared.values.Frame.TheVariants.{Sync as sync, Fup as fup}
use Rattle.frame.specs.Types.{type_of}
use Rattle.frame_read.specs.Read.{named_domain, values_of}
use Rattle.frame_check.specs.Check.{is_taken}
use Rattle.settings.specs.declared.node_settings.NodeSettings.{NodeSettings}
use Rattle.settings.specs.Ranges.{within}
use Rattle.settings.specs.Node.{places, all_good}
use Rattle.admission.specs.declared.Needed.{Needed}
use Rattle.admission.specs.declared.Needed.TheVariants.{Slave, Master, Either}
use Rattle.admission.specs.Reading.{is_good_reading}
use Rattle.admission.specs.Admission.{is_for}
use Rattle.domain.specs.declared.Domain.{Domain}
use Rattle.domain.specs.declared.Sending.{Sending}
use Rattle.domain.specs.declared.Sending.TheVariants.{Never, Open, Confirmed}
use Rattle.domain.specs.Records.{record_at}
use Rattle.slave_counter.specs.declared.CounterVerdict.{CounterVerdict}
use Rattle.slave_counter.specs.declared.CounterVerdict.TheVariants.{Free, Good, NotGood}
use Rattle.slave_counter.specs.Row.{row_of}
use Rattle.slave_pair.specs.Join.{is_old, is_other, is_above}
use Rattle.slave_sync.specs.Sync.{verdict_for}
use Rattle.master_follow.specs.Follow.{is_open_for}
use Rattle.node.specs.declared.Node.{Node}
use Rattle.node.specs.Frame.{addressed_by}
use Rattle.node.specs.Cycle.{is_room_for}
use Rattle.node_call.specs.Calls.{Call, frame, read, set, cycle, confirm}
use Rattle.clock.specs.declared.base.TimeBase.{TimeBase}
use Rattle.domain.specs.declared.Pair.{Pair}
use Rattle.frame.specs.declared.types.FrameType.{FrameType}
use Rattle.frame.specs.declared.types.FrameType.TheVariants.{PlainFup, PlainSync, SecuredFup, SecuredSync}
use Rattle.frame.specs.declared.values.Frame.{Frame}
use Rattle.frame_read.specs.declared.NoFrame.{NoFrame}
use Rattle.frame_read.specs.declared.NoFrame.TheVariants.{LengthNot8, NoSuchType}

-- ---- A number and its test, which is true where the number is to be given; the first such number, else 0.
abbrev pub Tests : Type 0
Tests = List (ℕ × Bool)

abbrev pub first_of : Tests → ℕ
first_of [] = 0
first_of (x ∷ rest) = cond x.1 x.0 (first_of rest)

-- ---- 1 "reading above 10^18 or before the kept one"
abbrev pub bad_reading : Node → VirtualLocalTime → Bool
bad_reading n t = not (is_good_reading n.kept t)

-- ---- 3 "byte 0 none of the four types"
abbrev pub no_type : Option FrameType → Bool
no_type (Some PlainSync) = false
no_type (Some SecuredSync) = false
no_type (Some PlainFup) = false
no_type (Some SecuredFup) = false
no_type None = true

-- ---- 4 "domain above 15 or not in the role needed"
abbrev pub not_for : Domain → (asked : ℕ) → Needed → Bool
not_for d asked needed = not (is_for d.number d.settings.role asked needed)

-- ---- 6 "SYNC's counter not good"
abbrev pub not_good : CounterVerdict → Bool
not_good Free = false
not_good Good = false
not_good NotGood = true

-- ---- 15 "SYNC good in counter but row not complete": "after the counter was unknown or forgotten, H further SYNC
-- frames in a row with a good counter must come before any pair may be taken, the last of them opening one"; this one
-- is not that last one
abbrev pub not_complete : (h row : ℕ) → CounterVerdict → Bool
not_complete h row Free = ltb 0 h
not_complete h row Good = ltb (row + 1) h
not_complete h row NotGood = false

-- ---- 7 "FUP with no open pair": "A pair older than F counts as not open"
abbrev pub no_open_pair : (f : ℕ) → Option Pair → VirtualLocalTime → Bool
no_open_pair f None t = true
no_open_pair f (Some p) t = is_old f p t

-- ---- 8 "FUP's counter not the pair's"
abbrev pub not_the_pairs : Option Pair → Fup → Bool
not_the_pairs None f = true
not_the_pairs (Some p) f = is_other p f

-- ---- 10 "read of a base never set"
abbrev pub never_set : Option TimeBase → Bool
never_set None = true
never_set (Some b) = false

-- ---- 11 "confirmation with no open SYNC of that counter, or older than C"
abbrev pub no_open_sync : (c : ℕ) → Sending → VirtualLocalTime → (counter : ℕ) → Bool
no_open_sync c Never t counter = true
no_open_sync c (Open sent seconds nanoseconds at) t counter = not (is_open_for c sent at t counter)
no_open_sync c (Confirmed at) t counter = true

-- ---- A frame: 1, 2, 3, 4, 5; then a SYNC 6, 15, a FUP 7, 8, 9.
abbrev pub kind_tests : Result Frame NoFrame → Domain → VirtualLocalTime → Tests
kind_tests (Ok (sync s)) d t =
    (6, not_good (verdict_for d t s))
    ∷ (15, not_complete d.settings.hysteresis (row_of d.last) (verdict_for d t s))
    ∷ []
kind_tests (Ok (fup f)) d t =
    (7, no_open_pair d.settings.follow_up_time d.pairing t)
    ∷ (8, not_the_pairs d.pairing f)
    ∷ (9, is_above f)
    ∷ []
kind_tests (Err LengthNot8) d t = []
kind_tests (Err NoSuchType) d t = []

abbrev pub frame_tests : Node → VirtualLocalTime → (bytes : List ℕ) → Tests
frame_tests n t bytes =
    let d = record_at n.domains (addressed_by bytes) in
    (1, bad_reading n t)
    ∷ (2, not (eqb (length bytes) 8))
    ∷ (3, no_type (type_of (get_or bytes 0 0)))
    ∷ (4, not_for d (named_domain bytes) Slave)
    ∷ (5, not (is_taken d.settings.mode d.settings.ids bytes))
    ∷ kind_tests (values_of (type_of (get_or bytes 0 0)) bytes) d t

-- ---- A read: 1, 4, 10.
abbrev pub read_tests : Node → (domain : ℕ) → VirtualLocalTime → Tests
read_tests n domain t =
    let d = record_at n.domains (domain % places) in
    (1, bad_reading n t)
    ∷ (4, not_for d domain Either)
    ∷ (10, never_set d.base)
    ∷ []

-- ---- A set: 1, 4, 9.
abbrev pub set_tests : Node → (domain : ℕ) → VirtualLocalTime → (nanoseconds : ℕ) → Tests
set_tests n domain t nanoseconds =
    let d = record_at n.domains (domain % places) in
    (1, bad_reading n t)
    ∷ (4, not_for d domain Master)
    ∷ (9, not (is_nanoseconds nanoseconds))
    ∷ []

-- ---- A main cycle: 1, 12 "output buffer .. under 8 times S".
abbrev pub cycle_tests : Node → VirtualLocalTime → (out : List ℕ) → Tests
cycle_tests n t out =
    (1, bad_reading n t)
    ∷ (12, not (is_room_for n (length out)))
    ∷ []

-- ---- A confirmation: 1, 4, 11, 12 "output buffer under 8 bytes".
abbrev pub confirm_tests : Node → (domain : ℕ) → VirtualLocalTime → (counter : ℕ) (out : List ℕ) → Tests
confirm_tests n domain t counter out =
    let d = record_at n.domains (domain % places) in
    (1, bad_reading n t)
    ∷ (4, not_for d domain Master)
    ∷ (11, no_open_sync d.settings.confirmation_time d.sending t counter)
    ∷ (12, not (leb 8 (length out)))
    ∷ []

-- ---- A queue (paper 02, request 4): 12 "first, if the answer buffer is shorter than the number of readings; then 2 if
-- that number is above 32 or the frame bytes aren't eight times it".
abbrev pub queue_tests : (readings frames answers : List ℕ) → Tests
queue_tests readings frames answers =
    (12, not (leb (length readings) (length answers)))
    ∷ (2, not (leb (length readings) 32))
    ∷ (2, not (eqb (length frames) (8 * length readings)))
    ∷ []

-- ---- `new`: 14 "settings out of range".
abbrev pub new_tests : NodeSettings → Tests
new_tests s = (14, not (within 1 16 s.syncs_per_cycle && all_good s.domains)) ∷ []

-- ---- The tests of any call.
abbrev pub tests_of : Node → Call → Tests
tests_of n (frame t bytes) = frame_tests n t bytes
tests_of n (read domain t) = read_tests n domain t
tests_of n (set domain t seconds nanoseconds) = set_tests n domain t nanoseconds
tests_of n (cycle t out) = cycle_tests n t out
tests_of n (confirm domain t counter out) = confirm_tests n domain t counter out
