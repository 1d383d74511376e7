-- The SYNCs that a domain heard, and what its record holds of them (paper 02, request 5). No contract cites this file.
--   heard_held   after any calls from `new` on the SYNC that a record holds is the one accepted last; while its row is
--                not complete, so many came in a row, and if it is, the row has come: `Held`
-- Assumes nothing.
use Rattle.std.specs.Prelude.{Err, Ok, Result, ⊤}
use Prim.Native.Nat.{ℕ, zero, suc, ◌+◌, ◌≤◌, ◌<◌}
use mathlib.Core.Path.{◌≡◌, refl, sym, subst}
use mathlib.Core.Bool.{Bool, true, false, ◌&&◌}
use mathlib.Core.Logic.{inl, inr}
use mathlib.Core.List.{List, [], ◌∷◌, ◌++◌}
use native.Mathlib.Omega.{arith}
use lib.Dec.{leb, ltb, eqb}
use lib.ListN.{set as put, replicate}
use lib.Seq.{get_or-set_other}
use borrow.Author.Tests.{leb-true, ltb-true, ltb-false, eqb-true, eqb-false}
use Rattle.promise.proofs.Tests.{both, either, either_told}
use Rattle.clock.specs.declared.reading.VirtualLocalTime.{VirtualLocalTime}
use Rattle.clock.specs.Reading.{span_of}
use Rattle.frame.specs.declared.values.Sync.{Sync}
use Rattle.frame.specs.declared.values.Fup.{Fup}
use Rattle.frame.specs.declared.values.Frame.{Frame}
use Rattle.frame.specs.declared.values.Frame.TheVariants.{Sync as sync, Fup as fup}
use Rattle.frame.specs.Values.{domain_in}
use Rattle.frame_read.specs.Read.{read_of}
use Rattle.frame_check.specs.Check.{is_taken}
use Rattle.settings.specs.declared.domain_settings.DomainSettings.{DomainSettings}
use Rattle.settings.specs.declared.node_settings.NodeSettings.{NodeSettings}
use Rattle.settings.specs.Domain.{absent_held}
use Rattle.settings.specs.Node.{places, judged_of}
use Rattle.admission.specs.declared.Needed.TheVariants.{Slave}
use Rattle.admission.specs.Reading.{is_good_reading}
use Rattle.admission.specs.Admission.{is_for}
use Rattle.admission.specs.FrameAdmission.{read_for}
use Rattle.domain.specs.declared.Domain.{Domain}
use Rattle.domain.specs.declared.LastSync.{LastSync}
use Rattle.domain.specs.declared.LastSync.TheVariants.{Unknown, Seen}
use Rattle.domain.specs.Records.{record_at}
use Rattle.slave_counter.specs.declared.CounterVerdict.{CounterVerdict}
use Rattle.slave_counter.specs.declared.CounterVerdict.TheVariants.{Good}
use Rattle.slave_counter.specs.declared.RowCheck.{RowCheck}
use Rattle.slave_counter.specs.Counter.{jump_of, verdict_of}
use Rattle.slave_counter.specs.Row.{row_of, with_row, row_refused}
use Rattle.slave_counter.proofs.Laws.{Checked, not_joined, begins, alone, joins, completes, checked}
use Rattle.slave_pair.specs.Join.{joined_of}
use Rattle.slave_sync.specs.Sync.{verdict_for, check_for, sync_as}
use Rattle.slave_fup.specs.Fup.{fup_as}
use Rattle.slave_frame.specs.Step.{kind_of}
use Rattle.call_frame.specs.FrameCall.{frame_call_as, frame_call_of}
use Rattle.node.specs.declared.Node.{Node}
use Rattle.node.specs.New.{records_of, new_as, new_of}
use Rattle.node.specs.Frame.{addressed_by}
use Rattle.node_call.specs.Calls.{Call, frame, read, set, cycle, confirm, node_after, node_after_all}
use Rattle.node_laws.specs.InRow.{
  Heard,
  accepted,
  refused,
  heard_of,
  heard_by,
  heard_in,
  IsNext,
  InARow,
  RowCame,
  LastAccepted,
}
use Rattle.node_laws.proofs.Stays.{KeptByMaster, set_call_keeps, cycle_call_keeps, confirm_call_keeps}
use Rattle.domain.specs.declared.DomainCall.{DomainCall}
use Rattle.domain.specs.declared.DomainStep.{DomainStep}
use Rattle.domain.specs.declared.Pair.{Pair}
use Rattle.frame_read.specs.declared.NoFrame.{NoFrame}
use Rattle.frame_read.specs.declared.NoFrame.TheVariants.{LengthNot8, NoSuchType}
use Rattle.refusal.specs.Numbers.{Outcome, outcome_number}
use Rattle.slave_answer.specs.declared.Taken.{Taken}

-- ---- what a record holds of the SYNCs heard

abbrev pub Holds : (j l h : ℕ) → LastSync → List Heard → Type 0
Holds j l h Unknown heard = Unit {0}
Holds j l h (Seen counter row at) heard =
    LastAccepted counter at heard × (row < h → InARow j l row heard) × (h ≤ row → RowCame j l h heard)

abbrev pub Held : Domain → List Heard → Type 0
Held d heard = Holds d.settings.jump_width d.settings.loss_time d.settings.hysteresis d.last heard

-- ---- a SYNC

-- a counter that is judged good is next to that of the SYNC accepted last

last_next :
    (j l counter last : ℕ) (t at : VirtualLocalTime) (heard : List Heard) → LastAccepted last at heard →
    span_of at t ≤ l → (leb 1 (jump_of last counter) && leb (jump_of last counter) j) ≡ true →
    IsNext j l counter t heard
last_next j l counter last t at [] is soon e = absurd is
last_next j l counter last t at (accepted own from ∷ older) is soon e =
    let jump = both _ _ e in
    let Near : ℕ → VirtualLocalTime → Type 0 =
    λ c r. (span_of r t ≤ l) × (1 ≤ jump_of c counter) × (jump_of c counter ≤ j) in
    subst (λ (c : ℕ). Near c from) (sym is.0)
    (subst (Near last) (sym is.1) (soon, leb-true _ _ jump.0, leb-true _ _ jump.1))
last_next j l counter last t at (refused ∷ older) is soon e = last_next j l counter last t at older is soon e

good_next :
    (j l h : ℕ) (last : LastSync) (counter : ℕ) (t : VirtualLocalTime) (heard : List Heard) →
    verdict_of j l last counter t ≡ Good → Holds j l h last heard → IsNext j l counter t heard
good_next j l h Unknown counter t heard e m = let no : ◌≡◌ {A = ℕ} 0 1 = cc in absurd (omega arith)
good_next j l h (Seen last row at) counter t heard e m =
    let Next : CounterVerdict → Type 0 = λ v. v ≡ Good → IsNext j l counter t heard in
    either_told Next (ltb l (span_of at t)) (λ late same. let no : ◌≡◌ {A = ℕ} 0 1 = cc in absurd (omega arith))
    (λ soon.
    either_told Next (leb 1 (jump_of last counter) && leb (jump_of last counter) j)
    (λ in_range same. last_next j l counter last t at heard m.0 (ltb-false l (span_of at t) soon) in_range)
    (λ out same. let no : ◌≡◌ {A = ℕ} 0 1 = cc in absurd (omega arith)))
    e

-- one that is refused leaves a complete row, and no other

refused_held :
    (j l h : ℕ) (last : LastSync) (heard : List Heard) → Holds j l h last heard →
    Holds j l h (with_row last (row_refused h (row_of last))) (refused ∷ heard)
refused_held j l h Unknown heard m = tt
refused_held j l h (Seen counter row at) heard m =
    either_told
    (λ (r : ℕ).
    LastAccepted counter at heard × (r < h → InARow j l r (refused ∷ heard)) × (h ≤ r → RowCame j l h heard))
    (ltb row h)
    (λ e. (m.0, λ lt. tt, λ le. absurd (omega (arith, ltb-true row h e, le))))
    (λ e. (m.0, λ lt. absurd (omega (arith, ltb-false row h e, lt)), m.2))

-- one that is accepted goes on with a row, or with one that has come

row_held :
    (j l h : ℕ) (last : LastSync) (heard : List Heard) → Holds j l h last heard → row_of last < h →
    InARow j l (row_of last) heard
row_held j l h Unknown heard m lt = tt
row_held j l h (Seen counter row at) heard m lt = m.1 lt

module _ (d : Domain) (t : VirtualLocalTime) (s : Sync) (heard : List Heard) (m : Held d heard) where
  abbrev j : ℕ
  j = d.settings.jump_width

  abbrev l : ℕ
  l = d.settings.loss_time

  abbrev h : ℕ
  h = d.settings.hysteresis

  abbrev row : ℕ
  row = row_of d.last

  abbrev now : List Heard
  now = accepted s.counter t ∷ heard

  goes_on : verdict_for d t s ≡ Good → row < h → InARow j l (row + 1) now
  goes_on e lt =
      let longer : suc row ≡ row + 1 = omega arith in
      subst (λ (r : ℕ). InARow j l r now) longer
      (good_next j l h d.last s.counter t heard e m, row_held j l h d.last heard m lt)

  stays :
      (last : LastSync) → verdict_of j l last s.counter t ≡ Good → Holds j l h last heard → h ≤ row_of last →
      RowCame j l h now
  stays Unknown e held le = let no : ◌≡◌ {A = ℕ} 0 1 = cc in absurd (omega arith)
  stays (Seen counter row at) e held le =
      inr (good_next j l h (Seen counter row at) s.counter t heard e held, held.2 le)

  came : verdict_for d t s ≡ Good → h ≤ row + 1 → RowCame j l h now
  came e le = by (ltb row h) refl
    where
      by : (b : Bool) → ltb row h ≡ b → RowCame j l h now
      by true lt =
          let whole : row + 1 ≡ h = omega (arith, le, ltb-true row h lt) in
          inl (subst (λ (r : ℕ). InARow j l r now) whole (goes_on e (ltb-true row h lt)))
      by false ge = stays d.last e m (ltb-false row h ge)

  begun : h ≤ 0 → RowCame j l h now
  begun le =
      let none : 0 ≡ h = omega (arith, le) in
      inl (subst (λ (r : ℕ). InARow j l r now) none tt)

  abbrev Next : DomainStep (Outcome Taken) → Type 0
  Next r = Held r.domain (heard_of t (Ok (sync s)) (outcome_number r.answer) ++ heard)

  sync_as_lem : (v : CounterVerdict) (k : RowCheck) → verdict_for d t s ≡ v → Checked h row v k → Next (sync_as k d t s)
  sync_as_lem v k told not_joined = refused_held j l h d.last heard m
  sync_as_lem v k told (begins lt) = ((refl, refl), λ below. tt, λ le. absurd (omega (arith, lt, le)))
  sync_as_lem v k told (alone le) = ((refl, refl), λ below. absurd (omega (arith, below)), λ whole. begun le)
  sync_as_lem v k told (joins lt) =
      ((refl, refl), λ below. goes_on told (omega (arith, lt)), λ le. absurd (omega (arith, lt, le)))
  sync_as_lem v k told (completes le) =
      ((refl, refl), λ below. absurd (omega (arith, below)), λ whole. came told le)

  sync_held : Next (kind_of d t (sync s))
  sync_held = sync_as_lem (verdict_for d t s) (check_for d t s) refl (checked h row (verdict_for d t s))

-- ---- a frame on one record

module _ (d : Domain) (kept t : VirtualLocalTime) (bytes : List ℕ) (heard : List Heard) (m : Held d heard) where
  fup_held : (joined : Outcome Pair) (f : Fup) → Held (fup_as joined d f).domain heard
  fup_held (Err refusal) f = m
  fup_held (Ok p) f = m

  kind_held :
      (values : Frame) → let r = kind_of d t values in
      Held r.domain (heard_of t (Ok values) (outcome_number r.answer) ++ heard)
  kind_held (sync s) = sync_held d t s heard m
  kind_held (fup f) = fup_held (joined_of d.settings.follow_up_time d.pairing t f) f

  abbrev CallHeld : Result Frame NoFrame → DomainCall (Outcome Taken) → Type 0
  CallHeld r c = Held c.domain (heard_of t r (outcome_number c.answer) ++ heard)

  not_heard :
      (values : Frame) (number : ℕ) → eqb number 6 ≡ false → eqb number 0 ≡ false → eqb number 15 ≡ false →
      Held d (heard_of t (Ok values) number ++ heard)
  not_heard (sync s) number six none fifteen = rw (six, none, fifteen) m
  not_heard (fup f) number six none fifteen = m

  values_held :
      (values : Frame) →
      CallHeld (Ok values)
      (frame_call_as (read_for (Ok values) d.number d.settings.role) d kept t bytes)
  values_held values =
      either (λ (a : Outcome Frame). CallHeld (Ok values) (frame_call_as a d kept t bytes))
      (is_for d.number d.settings.role (domain_in values) Slave)
      (either (λ (s : DomainStep (Outcome Taken)). Held s.domain (heard_of t (Ok values) (outcome_number s.answer) ++ heard))
      (is_taken d.settings.mode d.settings.ids bytes) (kind_held values) (not_heard values 5 refl refl refl))
      (not_heard values 4 refl refl refl)

  read_held : (r : Result Frame NoFrame) → CallHeld r (frame_call_as (read_for r d.number d.settings.role) d kept t bytes)
  read_held (Ok values) = values_held values
  read_held (Err LengthNot8) = m
  read_held (Err NoSuchType) = m

  unread : (r : Result Frame NoFrame) → Held d (heard_of t r 1 ++ heard)
  unread (Ok values) = not_heard values 1 refl refl refl
  unread (Err LengthNot8) = m
  unread (Err NoSuchType) = m

  call_held : CallHeld (read_of bytes) (frame_call_of d kept t bytes)
  call_held =
      either (λ (a : Outcome Frame). CallHeld (read_of bytes) (frame_call_as a d kept t bytes)) (is_good_reading kept t)
      (read_held (read_of bytes)) (unread (read_of bytes))

-- ---- a record stored at its place; beyond the records nothing is, and a record there has heard nothing

own_held :
    (ds : List Domain) (i : ℕ) (d : Domain) (heard : List Heard) → Held d heard →
    Held (record_at (put ds i d) i) heard
own_held [] i d heard m = tt
own_held (x ∷ rest) zero d heard m = m
own_held (x ∷ rest) (suc i) d heard m = own_held rest i d heard m

frame_held :
    (n : Node) (t : VirtualLocalTime) (bytes : List ℕ) (i : ℕ) (heard : List Heard) →
    Held (record_at n.domains i) heard →
    Held (record_at (node_after n (frame t bytes)).domains i) (heard_by i n (frame t bytes) ++ heard)
frame_held n t bytes i heard m =
    let at = addressed_by bytes in
    let after : ℕ → DomainCall (Outcome Taken) = λ place. frame_call_of (record_at n.domains place) n.kept t bytes in
    let Next : (place : ℕ) → List Heard → Type 0 =
    λ place new. Held (record_at (put n.domains place (after place).domain) i) (new ++ heard) in
    let own : Next i (heard_of t (read_of bytes) (outcome_number (after i).answer)) =
    own_held n.domains i (after i).domain _ (call_held (record_at n.domains i) n.kept t bytes heard m) in
    either_told (Next at) (eqb at i)
    (λ e.
    subst (λ (place : ℕ). Next place (heard_of t (read_of bytes) (outcome_number (after place).answer)))
    (sym (eqb-true at i e)) own)
    (λ e.
    subst (λ (d : Domain). Held d heard)
    (sym (get_or-set_other n.domains at i _ _ (λ same. eqb-false at i e (sym same)))) m)

-- ---- any call, and calls one after another

abbrev HeardStays : (before after : Domain) → Type 0
HeardStays before after = (heard : List Heard) → Held before heard → Held after heard

no_master_hears : KeptByMaster HeardStays
no_master_hears =
    record {
      same = λ d heard m. m;
      onward = λ a b c p q heard m. q heard (p heard m);
      timed = λ d g t heard m. m;
      sent = λ d seconds nanoseconds t heard m. m;
      confirmed = λ d at heard m. m;
    }

one_held :
    (n : Node) (c : Call) (i : ℕ) (heard : List Heard) → Held (record_at n.domains i) heard →
    Held (record_at (node_after n c).domains i) (heard_by i n c ++ heard)
one_held n (frame t bytes) i heard m = frame_held n t bytes i heard m
one_held n (read domain t) i heard m = m
one_held n (set domain t s ns) i heard m = set_call_keeps HeardStays no_master_hears n domain t s ns i heard m
one_held n (cycle t out) i heard m = cycle_call_keeps HeardStays no_master_hears n t out i heard m
one_held n (confirm domain t counter out) i heard m =
    confirm_call_keeps HeardStays no_master_hears n domain t counter out i heard m

all_held :
    (n : Node) (cs : List Call) (i : ℕ) (heard : List Heard) → Held (record_at n.domains i) heard →
    Held (record_at (node_after_all n cs).domains i) (heard_in i n cs heard)
all_held n [] i heard m = m
all_held n (c ∷ rest) i heard m = all_held (node_after n c) rest i (heard_by i n c ++ heard) (one_held n c i heard m)

-- ---- from a fresh node on

records_fresh : (number : ℕ) (l : List DomainSettings) (i : ℕ) → Held (record_at (records_of number l) i) []
records_fresh number [] i = tt
records_fresh number (s ∷ rest) zero = tt
records_fresh number (s ∷ rest) (suc i) = records_fresh (number + 1) rest i

fresh_held : (v : Outcome ⊤) (s : NodeSettings) (i : ℕ) → Held (record_at (new_as v s).node.domains i) []
fresh_held (Ok tt) s i = records_fresh 0 s.domains i
fresh_held (Err refusal) s i = records_fresh 0 (replicate places absent_held) i

pub heard_held :
    (s : NodeSettings) (cs : List Call) (i : ℕ) → let fresh = (new_of s).node in
    Held (record_at (node_after_all fresh cs).domains i) (heard_in i fresh cs [])
heard_held s cs i = all_held (new_of s).node cs i [] (fresh_held (judged_of s) s i)
