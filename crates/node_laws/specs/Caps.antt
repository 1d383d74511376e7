-- The definitions of the calls are total: a span that is never below 0, a counter taken modulo 16, a D held at its
-- ends, seconds held at the last of their width. On a reachable node none of these caps changes anything. Assumes
-- nothing.
use Rattle.std.specs.Prelude.{ℕ, ◌+◌, ◌%◌, ◌≤◌, ◌<◌, ◌≡◌, true, List, ℤ, length, get_or, Ok, Option, Some}
use Rattle.std.proofs.Math.IntN.{sub_ℕ}
use Rattle.clock.specs.declared.reading.VirtualLocalTime.{VirtualLocalTime}
use Rattle.clock.specs.declared.time.GlobalTime.{GlobalTime}
use Rattle.clock.specs.declared.base.TimeBase.{TimeBase}
use Rattle.clock.specs.Reading.{span_of}
use Rattle.clock.specs.Time.{most_nanoseconds, nanoseconds_of}
use Rattle.clock.specs.Base.{time_at}
use Rattle.frame.specs.declared.values.Sync.{Sync}
use Rattle.frame.specs.declared.values.Fup.{Fup}
use Rattle.frame.specs.declared.values.Frame.TheVariants.{Sync as sync, Fup as fup}
use Rattle.frame.specs.ByteTwo.{counters}
use Rattle.frame.specs.Ids.{id_at}
use Rattle.frame_read.specs.Read.{read_of, named_domain}
use Rattle.frame_laws.specs.RoundTrip.{AreBytes}
use Rattle.settings.specs.declared.domain_settings.Role.TheVariants.{Slave}
use Rattle.settings.specs.Node.{places}
use Rattle.admission.specs.Reading.{is_good_reading}
use Rattle.domain.specs.declared.Domain.{Domain}
use Rattle.domain.specs.declared.Pair.{Pair}
use Rattle.domain.specs.declared.LastSync.TheVariants.{Seen}
use Rattle.domain.specs.declared.Sending.TheVariants.{Open, Confirmed}
use Rattle.domain.specs.Records.{record_at}
use Rattle.slave_counter.specs.Counter.{jump_of}
use Rattle.slave_update.specs.Update.{new_base, moved_by}
use Rattle.master_send.specs.Send.{due_in}
use Rattle.call_read.specs.declared.Shown.{Shown}
use Rattle.node.specs.declared.Node.{Node}
use Rattle.node.specs.Frame.{addressed_by, node_frame_of}
use Rattle.node.specs.Read.{node_read_of}
use Rattle.node_laws.specs.Bounds.{TimeExact}
use Rattle.slave_answer.specs.declared.Taken.TheVariants.{Updated}

-- ---- A reading that a record holds and that a rule takes from t: of its base (a read, TIMEOUT, due), of the SYNC
-- accepted last (6), of the open pair (7), of the SYNC sent last (11 where it is open; due).
pub data HeldAt (d : Domain) : VirtualLocalTime → Type 0 where
  of_base : (b : TimeBase) → d.base ≡ Some b → HeldAt d b.at
  of_last : (counter row : ℕ) (at : VirtualLocalTime) → d.last ≡ Seen counter row at → HeldAt d at
  of_pair : (p : Pair) → d.pairing ≡ Some p → HeldAt d p.at
  of_open :
      (counter seconds nanoseconds : ℕ) (at : VirtualLocalTime) → d.sending ≡ Open counter seconds nanoseconds at →
      HeldAt d at
  of_confirmed : (at : VirtualLocalTime) → d.sending ≡ Confirmed at → HeldAt d at

-- ---- t passes number 1
abbrev pub Passes : Node → VirtualLocalTime → Type 0
Passes n t = is_good_reading n.kept t ≡ true

-- ---- The span from one reading to another is their difference: the first is not the later one.
abbrev pub SpanExact : (at t : VirtualLocalTime) → Type 0
SpanExact at t = span_of at t + at.0 ≡ t.0

-- ---- "(new minus last) modulo 16": the one number below 16 that leads from the last counter to the new one
pub record Leads (last new jump : ℕ) : Type 0 where
  pub below : jump < counters
  pub new_one : (last + jump) % counters ≡ new

pub record JumpExact (last new : ℕ) : Type 0 where
  pub leads : Leads last new (jump_of last new)
  pub only : (jump : ℕ) → Leads last new jump → jump ≡ jump_of last new

-- ---- a time shown or sent at t, of a base that is set
pub record TimeOf (held : Option TimeBase) (t : VirtualLocalTime) (g : GlobalTime) : Type 0 where
  pub base : TimeBase
  pub is : held ≡ Some base
  pub exact : TimeExact base.time base.at g t

-- ---- "let D be the new time minus the old base's time, both at the new T2": neither end is held
pub record MovedExact (old new : TimeBase) (moved : ℤ) : Type 0 where
  pub time : TimeExact old.time old.at (time_at old new.at) new.at
  pub difference : moved ≡ sub_ℕ (nanoseconds_of new.time) (nanoseconds_of (time_at old new.at))

-- ---- so for a base before and after
pub record Moves (before after : Option TimeBase) (moved : ℤ) : Type 0 where
  pub old : TimeBase
  pub new : TimeBase
  pub was : before ≡ Some old
  pub is : after ≡ Some new
  pub exact : MovedExact old new moved

-- ---- "the DataID that the list for this kind of frame holds at the counter": it holds one, whatever stands in for none
abbrev pub Listed : List ℕ → Type 0
Listed list = (counter other : ℕ) → counter < counters → id_at list counter ≡ get_or list counter other

-- ---- Each cap of a node's calls is the identity: spans; the jump of a SYNC as it is read; D where a FUP joins its
-- pair, and as it is answered; the time shown, the time of a SYNC (a FUP's is told by `Follows`); the counter sent next;
-- the place at which the next round starts; the records, of which there are 16; the place that a frame names; a DataID.
pub record CapsExact (n : Node) : Type 0 where
  pub spans :
      (i : ℕ) → i < places → (t at : VirtualLocalTime) → Passes n t → HeldAt (record_at n.domains i) at →
      SpanExact at t
  pub jumps :
      (i : ℕ) → i < places → (last row : ℕ) (at : VirtualLocalTime) →
      (record_at n.domains i).last ≡ Seen last row at → (bytes : List ℕ) (s : Sync) →
      read_of bytes ≡ Ok (sync s) → JumpExact last s.counter
  pub joined :
      (i : ℕ) → i < places → (record_at n.domains i).settings.role ≡ Slave → (old : TimeBase) (p : Pair) →
      (record_at n.domains i).base ≡ Some old → (record_at n.domains i).pairing ≡ Some p →
      (bytes : List ℕ) (f : Fup) → read_of bytes ≡ Ok (fup f) → f.nanoseconds ≤ most_nanoseconds →
      MovedExact old (new_base p f) (moved_by old (new_base p f))
  pub moved :
      (t : VirtualLocalTime) (bytes : List ℕ) (moved : ℤ) → (node_frame_of n t bytes).answer ≡ Ok (Updated moved) →
      Moves (record_at n.domains (addressed_by bytes)).base
      (record_at (node_frame_of n t bytes).node.domains (addressed_by bytes)).base moved
  pub shown :
      (domain : ℕ) (t : VirtualLocalTime) (shown : Shown) → node_read_of n domain t ≡ Ok shown →
      TimeOf (record_at n.domains (domain % places)).base t shown.time
  pub sent :
      (i : ℕ) → i < places → (t : VirtualLocalTime) → Passes n t → (seconds nanoseconds : ℕ) →
      due_in (record_at n.domains i) t ≡ Some (record { seconds = seconds; nanoseconds = nanoseconds }) →
      TimeOf (record_at n.domains i).base t (record { 0 = seconds; 1 = nanoseconds })
  pub counter :
      (i : ℕ) → i < places →
      (record_at n.domains i).next_counter % counters ≡ (record_at n.domains i).next_counter
  pub round : n.round % places ≡ n.round
  pub sixteen : length n.domains ≡ places
  pub place : (bytes : List ℕ) → AreBytes bytes → addressed_by bytes ≡ named_domain bytes
  pub ids :
      (i : ℕ) → i < places →
      Listed (record_at n.domains i).settings.ids.sync × Listed (record_at n.domains i).settings.ids.fup
