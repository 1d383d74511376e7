-- What moves the leap of a domain, and how long it shows (paper 02, request 3). No contract cites this file.
--   leap_follows   on any node, after any calls, the leap of a domain whose base is set is that of its updates' D
--   leap_shows     after a leap and fewer than `count` updates within both thresholds its bit shows
--   leap_goes      and after `count` of them or more none does
-- Assumes nothing.
use Rattle.std.specs.Prelude.{Err, None, Ok, Option, Some}
use Prim.Native.Nat.{ℕ, zero, suc, ◌+◌, ◌*◌, ◌<◌}
use mathlib.Core.Path.{◌≡◌, refl, sym, ap, subst, ◌∙◌}
use mathlib.Core.List.{List, [], ◌∷◌, ◌++◌}
use native.Mathlib.Omega.{arith}
use borrow.Author.Tests.{eqb-true, eqb-false}
use lib.Dec.{eqb}
use lib.IntN.{ℤ, pos}
use lib.ListN.{length, set as put}
use lib.Seq.{get_or-set_same, get_or-set_other}
use Rattle.promise.proofs.Tests.{either, either_told}
use Rattle.clock.specs.declared.reading.VirtualLocalTime.{VirtualLocalTime}
use Rattle.clock.specs.declared.base.TimeBase.{TimeBase}
use Rattle.frame.specs.declared.values.Sync.{Sync}
use Rattle.frame.specs.declared.values.Fup.{Fup}
use Rattle.frame.specs.declared.values.Frame.{Frame}
use Rattle.frame.specs.declared.values.Frame.TheVariants.{Sync as sync, Fup as fup}
use Rattle.frame_check.specs.Check.{is_taken}
use Rattle.admission.specs.FrameAdmission.{frame_admitted}
use Rattle.settings.specs.declared.domain_settings.DomainSettings.{DomainSettings}
use Rattle.domain.specs.declared.Domain.{Domain}
use Rattle.domain.specs.Records.{record_at}
use Rattle.slave_pair.specs.Join.{joined_of}
use Rattle.slave_update.specs.Row.{leap_of, with_run}
use Rattle.slave_update.specs.Update.{new_base}
use Rattle.slave_update.proofs.Leaps.{leap_stays, leap_clears}
use Rattle.slave_status.specs.Status.{leap_bits}
use Rattle.slave_counter.specs.declared.RowCheck.{RowCheck}
use Rattle.slave_counter.specs.declared.RowCheck.TheVariants.{NotGood, Joins, Complete}
use Rattle.slave_sync.specs.Sync.{check_for, sync_as}
use Rattle.slave_fup.specs.Fup.{update_in, fup_as}
use Rattle.slave_frame.specs.Step.{kind_of}
use Rattle.call_frame.specs.FrameCall.{frame_call_as, frame_call_of}
use Rattle.node.specs.declared.Node.{Node}
use Rattle.node.specs.New.{new_of}
use Rattle.node.specs.Frame.{addressed_by}
use Rattle.node_call.specs.Calls.{Call, frame, read, set, cycle, confirm, node_after, node_after_all}
use Rattle.bench_settings.specs.Bench.{bench_with}
use Rattle.node_laws.specs.Good.{BaseSet}
use Rattle.node_laws.specs.Leaps.{
  moves_of,
  moves_by,
  moves_in,
  leap_by,
  LeapFollows,
  Leapt,
  LeapShows,
  LeapGoes,
}
use Rattle.node_laws.proofs.Stays.{
  KeptByMaster,
  set_call_keeps,
  cycle_call_keeps,
  confirm_call_keeps,
  base_stays,
  settings_stay,
}
use Rattle.domain.specs.declared.DomainStep.{DomainStep}
use Rattle.domain.specs.declared.Leap.{Leap}
use Rattle.domain.specs.declared.Leap.TheVariants.{Future, Past}
use Rattle.domain.specs.declared.Pair.{Pair}
use Rattle.refusal.specs.Numbers.{Outcome}
use Rattle.slave_answer.specs.declared.Taken.{Taken}

-- ---- a frame on one record

module _ (d : Domain) (kept t : VirtualLocalTime) (set : BaseSet d.base) where
  abbrev Moved : DomainStep (Outcome Taken) → Type 0
  Moved s = s.domain.leap ≡ leap_by d.settings d.leap (moves_of s.answer)

  update_moves :
      (b : Option TimeBase) (new : TimeBase) → BaseSet b → let u = update_in d b new in
      u.leap ≡ leap_by d.settings d.leap (moves_of (Ok u.answer))
  update_moves None new h = absurd h
  update_moves (Some old) new h = refl

  fup_moves : (j : Outcome Pair) (f : Fup) → Moved (fup_as j d f)
  fup_moves (Err refusal) f = refl
  fup_moves (Ok p) f = update_moves d.base (new_base p f) set

  sync_moves : (c : RowCheck) (s : Sync) → Moved (sync_as c d t s)
  sync_moves (NotGood row) s = refl
  sync_moves (Joins row) s = refl
  sync_moves (Complete row) s = refl

  kind_moves : (values : Frame) → Moved (kind_of d t values)
  kind_moves (sync s) = sync_moves (check_for d t s) s
  kind_moves (fup f) = fup_moves (joined_of d.settings.follow_up_time d.pairing t f) f

  call_moves :
      (a : Outcome Frame) (bytes : List ℕ) → let r = frame_call_as a d kept t bytes in
      r.domain.leap ≡ leap_by d.settings d.leap (moves_of r.answer)
  call_moves (Err refusal) bytes = refl
  call_moves (Ok values) bytes =
      either Moved (is_taken d.settings.mode d.settings.ids bytes) (kind_moves values) refl

-- ---- a record stored at its place; one with a base is among the records

below : (ds : List Domain) (i : ℕ) → BaseSet (record_at ds i).base → i < length ds
below [] i h = absurd h
below (x ∷ rest) zero h = omega arith
below (x ∷ rest) (suc i) h = omega (arith, below rest i h)

frame_moves :
    (n : Node) (t : VirtualLocalTime) (bytes : List ℕ) (i : ℕ) → let d = record_at n.domains i in
    BaseSet d.base →
    (record_at (node_after n (frame t bytes)).domains i).leap
    ≡ leap_by d.settings d.leap (moves_by i n (frame t bytes))
frame_moves n t bytes i h =
    let at = addressed_by bytes in
    let d = record_at n.domains i in
    let Moves : (place : ℕ) → List ℤ → Type 0 =
    λ place moves.
    (record_at (put n.domains place (frame_call_of (record_at n.domains place) n.kept t bytes).domain) i).leap
    ≡ leap_by d.settings d.leap moves in
    let own : Moves i (moves_of (frame_call_of d n.kept t bytes).answer) =
    ap (λ (r : Domain). r.leap) (get_or-set_same n.domains i _ _ (below n.domains i h))
    ∙ call_moves d n.kept t h (frame_admitted n.kept t d.number d.settings.role bytes) bytes in
    either_told (Moves at) (eqb at i)
    (λ e.
    subst
    (λ (place : ℕ). Moves place (moves_of (frame_call_of (record_at n.domains place) n.kept t bytes).answer))
    (sym (eqb-true at i e)) own)
    (λ e. ap (λ (r : Domain). r.leap) (get_or-set_other n.domains at i _ _ (λ same. eqb-false at i e (sym same))))

-- ---- any call, and calls one after another

abbrev LeapStays : (before after : Domain) → Type 0
LeapStays before after = after.leap ≡ before.leap

no_master_leaps : KeptByMaster LeapStays
no_master_leaps =
    record {
      same = λ d. refl;
      onward = λ a b c p q. q ∙ p;
      timed = λ d g t. refl;
      sent = λ d seconds nanoseconds t. refl;
      confirmed = λ d at. refl;
    }

one_follows :
    (n : Node) (c : Call) (i : ℕ) → let d = record_at n.domains i in
    BaseSet d.base → (record_at (node_after n c).domains i).leap ≡ leap_by d.settings d.leap (moves_by i n c)
one_follows n (frame t bytes) i h = frame_moves n t bytes i h
one_follows n (read domain t) i h = refl
one_follows n (set domain t s ns) i h = set_call_keeps LeapStays no_master_leaps n domain t s ns i
one_follows n (cycle t out) i h = cycle_call_keeps LeapStays no_master_leaps n t out i
one_follows n (confirm domain t counter out) i h =
    confirm_call_keeps LeapStays no_master_leaps n domain t counter out i

in_two :
    (s : DomainSettings) (leap : Option Leap) (first later : List ℤ) →
    leap_by s leap (first ++ later) ≡ leap_by s (leap_by s leap first) later
in_two s leap [] later = refl
in_two s leap (d ∷ first) later = in_two s (leap_by s leap (d ∷ [])) first later

pub leap_follows : LeapFollows
leap_follows n i [] h = refl
leap_follows n i (c ∷ rest) h =
    let d = record_at n.domains i in
    let next = node_after n c in
    let moves = moves_in i next rest in
    leap_follows next i rest (base_stays n c i h)
    ∙ ap (λ (s : DomainSettings). leap_by s (record_at next.domains i).leap moves) (settings_stay n c i)
    ∙ ap (λ (l : Option Leap). leap_by d.settings l moves) (one_follows n c i h)
    ∙ sym (in_two d.settings d.leap (moves_by i n c) moves)

-- ---- how long a leap shows

run_unseen : (leap : Option Leap) (run : ℕ) → leap_bits (with_run leap run) ≡ leap_bits leap
run_unseen None run = refl
run_unseen (Some (Future other)) run = refl
run_unseen (Some (Past other)) run = refl

module _ (n : Node) (i : ℕ) (cs : List Call) (before row : List ℤ) (d : ℤ) (l : Leapt n i cs before row d) where
  abbrev own : Domain
  own = record_at n.domains i

  by_moves :
      (record_at (node_after_all n cs).domains i).leap ≡ leap_by own.settings own.leap (before ++ d ∷ row)
  by_moves = leap_follows n i cs l.set ∙ ap (leap_by own.settings own.leap) l.moves

pub leap_shows : LeapShows
leap_shows n i cs before row d l h =
    let own = record_at n.domains i in
    let leap = leap_of own.settings.future_threshold own.settings.past_threshold d in
    ap leap_bits
    (by_moves n i cs before row d l ∙ leap_stays own.settings.future_threshold own.settings.past_threshold own.settings.clear_count own.leap before row d l.leap l.within h)
    ∙ run_unseen leap (length row)

pub leap_goes : LeapGoes
leap_goes n i cs before row d l least h =
    let own = record_at n.domains i in
    by_moves n i cs before row d l
    ∙ leap_clears own.settings.future_threshold own.settings.past_threshold own.settings.clear_count own.leap before row d l.leap l.within least h

-- ---- such calls there are: the bench's slave with its first time, a leap by 501 ms, and an update by 0, with a set of
-- the master between them; its count is 1

-- a SYNC of domain 1 at so many seconds, with 100 s more, and its FUP with the nanoseconds' bytes
abbrev heard : (seconds : ℕ) (nanoseconds : List ℕ) → List Call
heard seconds nanoseconds =
    let t : VirtualLocalTime = record { 0 = seconds * 1000000000 } in
    frame t (0x10 ∷ 0 ∷ (0x10 + seconds) ∷ 0 ∷ 0 ∷ 0 ∷ 0 ∷ (100 + seconds) ∷ [])
    ∷ frame t (0x18 ∷ 0 ∷ (0x10 + seconds) ∷ 0 ∷ nanoseconds)
    ∷ []

abbrev begun : Node
begun = node_after_all (new_of (bench_with 2)).node (heard 1 (0 ∷ 0 ∷ 0 ∷ 0 ∷ []))

abbrev leaps : List Call
leaps = heard 2 (0x1D ∷ 0xDC ∷ 0xA7 ∷ 0x40 ∷ [])

abbrev later : List Call
later = leaps ++ set 2 (record { 0 = 2000000000 }) 7 0 ∷ heard 3 (0x1D ∷ 0xDC ∷ 0xA7 ∷ 0x40 ∷ [])

shows_met : Leapt begun 1 leaps [] [] (pos 501000000)
shows_met =
    record {
      set = tt;
      moves = refl;
      leap = λ e. let no : ◌≡◌ {A = ℕ} 0 1 = cc in absurd (omega arith);
      within = tt;
    }

goes_met : Leapt begun 1 later [] (pos 0 ∷ []) (pos 501000000)
goes_met =
    record {
      set = tt;
      moves = refl;
      leap = λ e. let no : ◌≡◌ {A = ℕ} 0 1 = cc in absurd (omega arith);
      within = (refl, tt);
    }
