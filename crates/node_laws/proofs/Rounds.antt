-- A round of the main cycle keeps sixteen good records. No contract cites this file.
--   all_later        sixteen records that are good at a kept reading are good at every later one
--   stored_good      a good record stored at its place
--   turn_good        a turn, of a domain that may send or may not
--   goes_good        any turns
--   goes_count       at most a frame for each turn, and at most as many as may still be sent
--   round_good       so the round: the records, and where the next round starts
--   count_bound      it sends at most as many frames as it may
--   count_sixteen    and at most sixteen
-- Assumes nothing.
use Rattle.std.specs.Prelude.{None, Option, Some}
use Prim.Native.Nat.{ℕ, zero, suc, ◌+◌, ◌-◌, ◌%◌, ◌≤◌, ◌<◌}
use mathlib.Core.Path.{◌≡◌, refl, ◌∙◌}
use mathlib.Core.Bool.{Bool, true, false}
use mathlib.Core.List.{List, ◌++◌}
use native.Mathlib.Omega.{arith}
use lib.Dec.{ltb, eqb}
use lib.ListN.{length, set, length-set}
use lib.Seq.{get_or-set_same, get_or-set_other}
use borrow.Author.Tests.{ltb-true, eqb-true, eqb-false}
use Rattle.settings.specs.Node.{places}
use Rattle.round.specs.Turn.{next_place}
use Rattle.promise.proofs.Tests.{either, either_told}
use Rattle.clock.specs.declared.reading.VirtualLocalTime.{VirtualLocalTime}
use Rattle.frame.specs.declared.data_ids.DataIds.{DataIds}
use Rattle.domain.specs.declared.Domain.{Domain}
use Rattle.master_send.specs.Send.{send_of}
use Rattle.domain.specs.Records.{record_at}
use Rattle.round.specs.Turn.{turn_of, next_after}
use Rattle.round.specs.Round.{frames_by, sent_after, goes, round_of}
use Rattle.node_laws.specs.Good.{RecordGood}
use Rattle.node_laws.proofs.Later.{later}
use Rattle.node_laws.proofs.Master.{send_good}
use Rattle.domain.specs.declared.DomainStep.{DomainStep}
use Rattle.frame.specs.declared.values.Sync.{Sync}

-- ---- sixteen good records

pub record AllGood (kept : VirtualLocalTime) (ds : List Domain) : Type 0 where
  pub sixteen : length ds ≡ places
  pub records : (i : ℕ) → i < places → RecordGood i kept (record_at ds i)

pub all_later :
    (kept kept' : VirtualLocalTime) (ds : List Domain) → kept.0 ≤ kept'.0 → AllGood kept ds → AllGood kept' ds
all_later kept kept' ds le g =
    record {
      sixteen = g.sixteen;
      records = λ i h. later i kept kept' (record_at ds i) le (g.records i h);
    }

pub stored_good :
    (kept : VirtualLocalTime) (ds : List Domain) (at : ℕ) (d : Domain) → at < places → AllGood kept ds →
    RecordGood at kept d → AllGood kept (set ds at d)
stored_good kept ds at d h g new =
    record { sixteen = length-set ds at d ∙ g.sixteen; records = λ i below. by_place i below (eqb i at) refl }
  where
    by_place : (i : ℕ) → i < places → (b : Bool) → eqb i at ≡ b → RecordGood i kept (record_at (set ds at d) i)
    by_place i below true e =
        let same = eqb-true i at e in
        rw (same, get_or-set_same ds at d _ (omega (arith, g.sixteen))) new
    by_place i below false e = rw (get_or-set_other ds at i d _ (eqb-false i at e)) (g.records i below)

-- ---- turns

pub turn_good :
    (may : Bool) (i : ℕ) (t : VirtualLocalTime) (d : Domain) → RecordGood i t d →
    RecordGood i t (turn_of may d t).domain
turn_good may i t d g =
    either (λ (s : DomainStep (Option Sync)). RecordGood i t s.domain) may (send_good i t t d (omega arith) g) g

next_below : (a : Option Sync) (at next : ℕ) → next < places → next_after a at next < places
next_below (Some s) at next h = omega arith
next_below None at next h = h

pub goes_good :
    (turns at sent most : ℕ) (t : VirtualLocalTime) (ds : List Domain) (next : ℕ) → at < places → next < places →
    AllGood t ds →
    AllGood t (goes turns at sent most t ds next).domains × ((goes turns at sent most t ds next).next < places)
unfolding goes
goes_good zero at sent most t ds next a n g = (g, n)
goes_good (suc turns) at sent most t ds next a n g =
    let s = turn_of (ltb sent most) (record_at ds at) t in
    goes_good turns (next_place places at) (sent_after s.answer sent) most t (set ds at s.domain)
    (next_after s.answer at next) (omega arith) (next_below s.answer at next n)
    (stored_good t ds at s.domain a g (turn_good (ltb sent most) at t (record_at ds at) (g.records at a)))

-- ---- how many frames

abbrev Count : (sent most turns : ℕ) → List (List ℕ) → Type 0
Count sent most turns frames = (length frames ≤ most - sent) × (length frames ≤ turns)

one_more :
    (a : Option Sync) (sent most turns : ℕ) (ids : DataIds) (frames : List (List ℕ)) → sent < most →
    Count (sent_after a sent) most turns frames → Count sent most (suc turns) (frames_by a ids ++ frames)
one_more (Some s) sent most turns ids frames may h = (omega arith, omega arith)
one_more None sent most turns ids frames may h = (h.0, omega arith)

turn_count :
    (sent most turns : ℕ) (d : Domain) (t : VirtualLocalTime) (ids : DataIds) (frames : List (List ℕ)) →
    Count (sent_after (turn_of (ltb sent most) d t).answer sent) most turns frames →
    Count sent most (suc turns) (frames_by (turn_of (ltb sent most) d t).answer ids ++ frames)
turn_count sent most turns d t ids frames =
    either_told Counts (ltb sent most) (λ e. one_more (send_of d t).answer sent most turns ids frames (ltb-true _ _ e))
    (λ e h. (h.0, omega arith))
  where
    Counts : DomainStep (Option Sync) → Type 0
    Counts s =
        Count (sent_after s.answer sent) most turns frames →
        Count sent most (suc turns) (frames_by s.answer ids ++ frames)

pub goes_count :
    (turns at sent most : ℕ) (t : VirtualLocalTime) (ds : List Domain) (next : ℕ) →
    (length (goes turns at sent most t ds next).frames ≤ most - sent)
    × (length (goes turns at sent most t ds next).frames ≤ turns)
unfolding goes
goes_count zero at sent most t ds next = (omega arith, omega arith)
goes_count (suc turns) at sent most t ds next =
    let s = turn_of (ltb sent most) (record_at ds at) t in
    turn_count sent most turns (record_at ds at) t (record_at ds at).settings.ids _
    (goes_count turns (next_place places at) (sent_after s.answer sent) most t (set ds at s.domain)
    (next_after s.answer at next))

-- ---- the round

pub round_good :
    (ds : List Domain) (first : ℕ) (kept t : VirtualLocalTime) (most : ℕ) → kept.0 ≤ t.0 → first < places →
    AllGood kept ds → AllGood t (round_of ds first t most).domains × ((round_of ds first t most).next < places)
round_good ds first kept t most le h g =
    goes_good places (first % places) 0 most t ds first (omega arith) h (all_later kept t ds le g)

module _ (ds : List Domain) (first : ℕ) (t : VirtualLocalTime) (most : ℕ) where
  pub count_bound : length (round_of ds first t most).frames ≤ most
  count_bound = omega (arith, (goes_count places (first % places) 0 most t ds first).0)

  pub count_sixteen : length (round_of ds first t most).frames ≤ 16
  count_sixteen = omega (arith, (goes_count places (first % places) 0 most t ds first).1)
