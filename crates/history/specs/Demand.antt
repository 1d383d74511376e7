-- Demand 3, word for word, as hypotheses over a history and statements; at the end they stand together. Its last
-- sentence is that of paper 02, request 5. Assumes nothing.
use Rattle.std.specs.Prelude.{ℕ, zero, suc, ◌+◌, ◌*◌, ◌≤◌, ◌<◌, ◌≡◌, true, cond, List, [], ◌∷◌, ◌++◌, map, leb, Ok, Some}
use Rattle.clock.specs.declared.reading.VirtualLocalTime.{VirtualLocalTime}
use Rattle.clock.specs.declared.base.TimeBase.{TimeBase}
use Rattle.clock.specs.Reading.{is_reading, span_of}
use Rattle.clock.specs.Time.{nanoseconds_of, advanced}
use Rattle.clock.specs.Base.{base_of}
use Rattle.frame.specs.declared.data_ids.DataIds.{DataIds}
use Rattle.frame.specs.ByteTwo.{counters}
use Rattle.frame_check.specs.declared.CheckMode.{CheckMode}
use Rattle.frame_check.specs.declared.CheckMode.TheVariants.{Validated, NotValidated, Ignored, Optional}
use Rattle.frame_check.specs.Check.{takes_plain}
use Rattle.settings.specs.declared.domain_settings.Role.TheVariants.{Slave, Master}
use Rattle.settings.specs.declared.domain_settings.Security.{Security}
use Rattle.settings.specs.declared.domain_settings.Security.TheVariants.{Plain, Secured}
use Rattle.settings.specs.Node.{places, judged_of}
use Rattle.domain.specs.Updates.{next_update}
use Rattle.node_call.specs.Calls.{Call, frame, reading_of, numbered, answer_to}
use Rattle.node_laws.specs.Reachable.{IsCall, IsSettings}
use Rattle.history.specs.History.{
  Link,
  master_settings,
  slave_settings,
  on_master,
  on_slave,
  Event,
  at_master,
  at_slave,
  History,
  slave_after,
  slave_record,
  Sent,
  sent_in,
  is_heard,
  Heard,
  heard_by,
  heard_in,
  In,
  is_fup,
  is_sync,
  counter_in,
}

-- ---- "Take one master and one fresh slave": good settings, the domain the master's in one and the slave's in
-- the other
pub record Linked (k : Link) : Type 0 where
  pub domain : k.domain < places
  pub masters : IsSettings k.master
  pub slaves : IsSettings k.slave
  pub good_master : judged_of k.master ≡ Ok tt
  pub good_slave : judged_of k.slave ≡ Ok tt
  pub master : (master_settings k).role ≡ Master
  pub slave : (slave_settings k).role ≡ Slave

-- ---- "set so that the slave reads the master's frames"
abbrev pub ReadsAs : Security → CheckMode → (master slave : DataIds) → Type 0
ReadsAs Plain mode master slave = takes_plain mode ≡ true
ReadsAs Secured Validated master slave = master ≡ slave
ReadsAs Secured NotValidated master slave = ⊥
ReadsAs Secured Ignored master slave = Unit {0}
ReadsAs Secured Optional master slave = master ≡ slave

abbrev pub Reads : Link → Type 0
Reads k =
    ReadsAs (master_settings k).security (slave_settings k).mode (master_settings k).ids (slave_settings k).ids

-- ---- calls as their arguments' types say
abbrev pub call_in : Event → Call
call_in (at_master c) = c
call_in (at_slave c) = c

abbrev pub AreCalls : History → Type 0
AreCalls [] = Unit {0}
AreCalls (x ∷ h) = AreCalls h × IsCall (call_in x)

-- ---- "the slave reads the master's frames": each of them is heard wherever it is handed in
abbrev pub EachFrameHeard : Type 0
EachFrameHeard =
    (k : Link) → Linked k → Reads k → (h : History) → AreCalls h → (s : Sent) → In s (sent_in k h) →
    is_heard k s.bytes ≡ true

-- ---- "with clocks of equal rate, in range, that never step back": "put on one scale .., the readings never fall
-- along the history"
abbrev pub InRange : History → Type 0
InRange [] = Unit {0}
InRange (x ∷ h) = InRange h × (is_reading (reading_of (call_in x)) ≡ true)

abbrev pub moment_of : Link → Event → ℕ
moment_of k (at_master c) = on_master k (reading_of c)
moment_of k (at_slave c) = on_slave k (reading_of c)

abbrev pub now : Link → History → ℕ
now k [] = 0
now k (x ∷ h) = moment_of k x

abbrev pub NeverFall : Link → History → Type 0
NeverFall k [] = Unit {0}
NeverFall k (x ∷ h) = NeverFall k h × (now k h ≤ moment_of k x)

-- ---- "Nobody else sends in the domain, and no frame from before the master's setting up is still on its way.
-- The bus may lose, repeat and reorder frames, but no copy comes before its sending or more than E after it".
-- A copy of a frame has its bytes, and comes after the call that sent it, at most E later.
pub record CopyOf (k : Link) (before : History) (of : Sent) (x : Heard) : Type 0 where
  pub sent : In of (sent_in k before)
  pub same : x.bytes ≡ of.bytes
  pub soon : on_slave k x.at ≤ on_master k of.at + k.e

pub record CopyIn (k : Link) (before : History) (x : Heard) : Type 0 where
  pub of : Sent
  pub copied : CopyOf k before of x

abbrev pub Carried : Link → History → Type 0
Carried k [] = Unit {0}
Carried k (at_master c ∷ h) = Carried k h
Carried k (at_slave c ∷ h) = Carried k h × ((x : Heard) → In x (heard_by k c) → CopyIn k h x)

-- ---- "16 sending periods exceed E plus the follow-up time and E plus the confirmation time"
pub record Exceed (k : Link) : Type 0 where
  pub follow_up : k.e + (slave_settings k).follow_up_time < counters * (master_settings k).period
  pub confirmation : k.e + (master_settings k).confirmation_time < counters * (master_settings k).period

-- ---- "its confirmation": each FUP that the master sends in the domain stands next after a SYNC with its counter, and
-- was sent at most C after it
pub record Confirms (k : Link) (fup : Sent) (older : List Sent) : Type 0 where
  pub sync : Sent
  pub rest : List Sent
  pub next : older ≡ sync ∷ rest
  pub is_a_sync : is_sync sync ≡ true
  pub counter : counter_in fup ≡ counter_in sync
  pub not_before : sync.at.0 ≤ fup.at.0
  pub in_time : fup.at.0 ≤ sync.at.0 + (master_settings k).confirmation_time

abbrev pub EachFupConfirms : Type 0
EachFupConfirms =
    (k : Link) → Linked k → (h : History) → AreCalls h → (newer older : List Sent) (fup : Sent) →
    sent_in k h ≡ newer ++ (fup ∷ older) → is_fup fup ≡ true → Confirms k fup older

-- ---- "each time the slave holds is the time one SYNC was sent with, carried on to its confirmation and tied to
-- the slave's reading at a copy of that SYNC": its confirmation gives the FUP next to it (`EachFupConfirms`); a copy is
-- what the bus is said to carry: the same bytes, sent before, at most E before
pub record TimeOfOne (k : Link) (h : History) (b : TimeBase) : Type 0 where
  pub sync : Sent
  pub fup : Sent
  pub newer : List Sent
  pub older : List Sent
  pub sent : sent_in k h ≡ newer ++ (fup ∷ sync ∷ older)
  pub is_a_sync : is_sync sync ≡ true
  pub is_a_fup : is_fup fup ≡ true
  pub time : b.time ≡ advanced sync.time (span_of sync.at fup.at)
  pub after : History
  pub before : History
  pub copy : h ≡ after ++ (at_slave (frame b.at sync.bytes) ∷ before)
  pub copied : CopyOf k before sync (record { bytes = sync.bytes; at = b.at })

abbrev pub EachTimeHeld : Type 0
EachTimeHeld =
    (k : Link) → Linked k → Exceed k → (h : History) → AreCalls h → NeverFall k h → Carried k h →
    (b : TimeBase) → (slave_record k h).base ≡ Some b → TimeOfOne k h b

-- ---- "one SYNC": what was handed in is a copy of no other frame
abbrev pub EachSyncOne : Type 0
EachSyncOne =
    (k : Link) → Linked k → Exceed k → (h : History) → AreCalls h → NeverFall k h →
    (b : TimeBase) (one : TimeOfOne k h b) → (other : Sent) →
    CopyOf k one.before other (record { bytes = one.sync.bytes; at = b.at }) → other ≡ one.sync

-- ---- How far a time that the slave holds is off: it, less the time the SYNC was sent with carried on to the copy's
-- arrival on the one scale, is at least -E and at most +C.
pub record Near (k : Link) (b : TimeBase) (sync : Sent) : Type 0 where
  pub behind :
      nanoseconds_of sync.time + on_slave k b.at ≤ nanoseconds_of b.time + on_master k sync.at + k.e
  pub ahead :
      nanoseconds_of b.time + on_master k sync.at
      ≤ nanoseconds_of sync.time + on_slave k b.at + (master_settings k).confirmation_time

abbrev pub EachTimeNear : Type 0
EachTimeNear =
    (k : Link) → Linked k → (h : History) → AreCalls h → NeverFall k h →
    (b : TimeBase) (one : TimeOfOne k h b) → Near k b one.sync

-- ---- "from some moment": sent, or heard, at it or later
abbrev pub since : {A : Type 0} → (A → ℕ) → (moment : ℕ) → List A → List A
since at moment [] = []
since at moment (x ∷ older) = cond (leb moment (at x)) (x ∷ since at moment older) (since at moment older)

abbrev pub sent_since : Link → (moment : ℕ) → List Sent → List Sent
sent_since k = since (λ (s : Sent). on_master k s.at)

abbrev pub heard_since : Link → (moment : ℕ) → List Heard → List Heard
heard_since k = since (λ (x : Heard). on_slave k x.at)

-- ---- "only newly sent frames arrive, all of them, once and in order": what is heard are copies of what is sent,
-- one of each, but for those sent last, which are under way
pub record Copy : Type 0 where
  pub of : Sent
  pub at : VirtualLocalTime

abbrev pub sendings : List Copy → List Sent
sendings = map (λ (c : Copy). c.of)

abbrev pub arrivals : List Copy → List Heard
arrivals = map (λ (c : Copy). record { bytes = c.of.bytes; at = c.at })

pub record Orderly (k : Link) (moment : ℕ) (h : History) : Type 0 where
  pub under_way : List Sent
  pub copies : List Copy
  pub all : sent_since k moment (sent_in k h) ≡ under_way ++ sendings copies
  pub only : heard_since k moment (heard_in k h) ≡ arrivals copies

-- ---- "is taken": the call that hands in the FUP answers 0, the base is that pair's, the update counter one up
pub record Taken (k : Link) (moment : ℕ) (h : History) (fup sync : Copy) (older : List Copy) : Type 0 where
  pub after : History
  pub before : History
  pub call : h ≡ after ++ (at_slave (frame fup.at fup.of.bytes) ∷ before)
  pub next : heard_since k moment (heard_in k before) ≡ arrivals (sync ∷ older)
  pub number : answer_to (slave_after k before) (frame fup.at fup.of.bytes) ≡ numbered 0
  pub base :
      (slave_record k (at_slave (frame fup.at fup.of.bytes) ∷ before)).base
      ≡ Some (base_of (advanced sync.of.time (span_of sync.of.at fup.of.at)) sync.at)
  pub updates :
      (slave_record k (at_slave (frame fup.at fup.of.bytes) ∷ before)).updates
      ≡ next_update (slave_record k before).updates

-- ---- "the last sentence then counts from H pairs later, and needs SYNC arrivals at most L apart": before y came H
-- SYNCs (copies, the newest first; FUPs stand between them), each at most L before the next, and the first of all "more
-- than the loss time after that moment". With H 0 that is y.
abbrev pub InRow : Link → (moment h : ℕ) (y : Copy) (older : List Copy) → Type 0
InRow k moment zero y older = moment + (slave_settings k).loss_time ≤ on_slave k y.at
InRow k moment (suc h) y [] = ⊥
InRow k moment (suc h) y (q ∷ older) =
    cond (is_sync q.of)
    ((span_of q.at y.at ≤ (slave_settings k).loss_time) × InRow k moment h q older)
    (InRow k moment (suc h) y older)

-- ---- "each FUP within the follow-up time of its SYNC's arrival, then every confirmed pair whose SYNC arrives more
-- than the loss time after that moment is taken"
abbrev pub EachPairTaken : Type 0
EachPairTaken =
    (k : Link) → Linked k → (h : History) → AreCalls h → NeverFall k h → InRange h →
    (moment : ℕ) → (o : Orderly k moment h) →
    (newer older : List Copy) (fup sync : Copy) → o.copies ≡ newer ++ (fup ∷ sync ∷ older) →
    is_fup fup.of ≡ true → span_of sync.at fup.at ≤ (slave_settings k).follow_up_time →
    InRow k moment (slave_settings k).hysteresis sync older →
    Taken k moment h fup sync older

-- ---- So in the words of the request: where SYNC arrivals are at most L apart, a pair is taken whose SYNC, and at
-- least H SYNCs before it, arrive "more than the loss time after that moment".
abbrev pub SyncBefore : Link → (y : Copy) (older : List Copy) → Type 0
SyncBefore k y [] = Unit {0}
SyncBefore k y (q ∷ older) =
    cond (is_sync q.of) (span_of q.at y.at ≤ (slave_settings k).loss_time) (SyncBefore k y older)

abbrev pub Spaced : Link → List Copy → Type 0
Spaced k [] = Unit {0}
Spaced k (y ∷ older) = cond (is_sync y.of) (SyncBefore k y older) (Unit {0}) × Spaced k older

abbrev pub syncs_in : List Copy → ℕ
syncs_in [] = 0
syncs_in (q ∷ older) = cond (is_sync q.of) (suc (syncs_in older)) (syncs_in older)

abbrev pub copies_since : Link → (moment : ℕ) → List Copy → List Copy
copies_since k = since (λ (c : Copy). on_slave k c.at)

abbrev pub EachSpacedTaken : Type 0
EachSpacedTaken =
    (k : Link) → Linked k → (h : History) → AreCalls h → NeverFall k h → InRange h →
    (moment : ℕ) → (o : Orderly k moment h) →
    (newer older : List Copy) (fup sync : Copy) → o.copies ≡ newer ++ (fup ∷ sync ∷ older) →
    is_fup fup.of ≡ true → span_of sync.at fup.at ≤ (slave_settings k).follow_up_time →
    Spaced k o.copies → moment + (slave_settings k).loss_time ≤ on_slave k sync.at →
    (slave_settings k).hysteresis ≤ syncs_in (copies_since k (moment + (slave_settings k).loss_time) older) →
    Taken k moment h fup sync older

-- ---- what the demand asks of the two nodes, their clocks and the bus but for "exceed" and the moment; each statement
-- asks of it what it needs
pub record Fair (k : Link) (h : History) : Type 0 where
  pub linked : Linked k
  pub reads : Reads k
  pub calls : AreCalls h
  pub never_fall : NeverFall k h
  pub in_range : InRange h
  pub carried : Carried k h

-- ---- Demand 3: the statements together
pub record DemandThree : Type 0 where
  pub heard : EachFrameHeard
  pub confirms : EachFupConfirms
  pub held : EachTimeHeld
  pub one : EachSyncOne
  pub near : EachTimeNear
  pub taken : EachPairTaken
  pub spaced : EachSpacedTaken
