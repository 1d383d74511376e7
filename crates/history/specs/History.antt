-- Paper 01: "Demand 3 is stated over a history: the calls of both nodes in one order, with their readings."
-- What a history is, what it makes of the two nodes, and which frames were sent and heard in it. Histories and
-- lists stand with the newest first; here is one from its oldest call on, with a copy of each of the two frames sent:
--   master   set   cycle: SYNC 0                  confirm: FUP 0
--   slave                         frame: SYNC 0                     frame: FUP 0   read
--   scale    0     0              60              100               200            300 ms
-- Assumes nothing.
use Rattle.std.specs.Prelude.{ℕ, ◌+◌, ◌≡◌, Bool, false, cond, ◌&&◌, ◌||◌, ◌⊎◌, List, [], ◌∷◌, ◌++◌, eqb, get_or, Err, None, Ok, Option, Result, Some}
use Rattle.clock.specs.declared.reading.VirtualLocalTime.{VirtualLocalTime}
use Rattle.clock.specs.declared.time.GlobalTime.{GlobalTime}
use Rattle.clock.specs.Base.{time_at}
use Rattle.frame_read.specs.Read.{read_of}
use Rattle.frame_check.specs.Check.{is_taken}
use Rattle.settings.specs.declared.domain_settings.DomainSettings.{DomainSettings}
use Rattle.settings.specs.Domain.{absent_held}
use Rattle.settings.specs.declared.node_settings.NodeSettings.{NodeSettings}
use Rattle.domain.specs.declared.Domain.{Domain}
use Rattle.frame.specs.ByteTwo.{counter_of}
use Rattle.frame.specs.Values.{domain_in}
use Rattle.domain.specs.Records.{record_at}
use Rattle.node.specs.declared.Node.{Node}
use Rattle.node.specs.New.{new_of}
use Rattle.node.specs.Frame.{addressed_by}
use Rattle.node_call.specs.Calls.{
  Call,
  frame,
  read,
  set,
  cycle,
  confirm,
  reading_of,
  node_after,
  answer_to,
  given_by,
}
use Rattle.clock.specs.declared.base.TimeBase.{TimeBase}
use Rattle.frame.specs.declared.values.Frame.{Frame}
use Rattle.frame_read.specs.declared.NoFrame.{NoFrame}
use Rattle.frame_read.specs.declared.NoFrame.TheVariants.{LengthNot8, NoSuchType}

-- ---- what stands in a list
abbrev pub In : {A : Type 0} → A → List A → Type 0
In a [] = ⊥
In a (b ∷ rest) = (a ≡ b) ⊎ In a rest

-- ---- "one master and one fresh slave": their settings and the domain. "The two clocks differ by a fixed whole
-- number; put on one scale by it": what is added to each clock's readings. E.
pub record Link : Type 0 where
  pub master : NodeSettings
  pub slave : NodeSettings
  pub domain : ℕ
  pub master_adds : ℕ
  pub slave_adds : ℕ
  pub e : ℕ

abbrev pub master_settings : Link → DomainSettings
master_settings k = get_or k.master.domains k.domain absent_held

abbrev pub slave_settings : Link → DomainSettings
slave_settings k = get_or k.slave.domains k.domain absent_held

abbrev pub on_master : Link → VirtualLocalTime → ℕ
on_master k t = t.0 + k.master_adds

abbrev pub on_slave : Link → VirtualLocalTime → ℕ
on_slave k t = t.0 + k.slave_adds

-- ---- A call of either node, and a history.
pub data Event : Type 0 where
  at_master : Call → Event
  at_slave : Call → Event

abbrev pub History : Type 0
History = List Event

-- ---- The nodes after it, both fresh before: "neither set up again".
abbrev pub master_after : Link → History → Node
master_after k [] = (new_of k.master).node
master_after k (at_master c ∷ h) = node_after (master_after k h) c
master_after k (at_slave c ∷ h) = master_after k h

abbrev pub slave_after : Link → History → Node
slave_after k [] = (new_of k.slave).node
slave_after k (at_master c ∷ h) = slave_after k h
slave_after k (at_slave c ∷ h) = node_after (slave_after k h) c

abbrev pub master_record : Link → History → Domain
master_record k h = record_at (master_after k h).domains k.domain

abbrev pub slave_record : Link → History → Domain
slave_record k h = record_at (slave_after k h).domains k.domain

-- ---- "A frame is sent at the reading of the call that gives it": its bytes, that reading, and the master's
-- time in the domain at it, which is a SYNC's whole time.
pub record Sent : Type 0 where
  pub bytes : List ℕ
  pub at : VirtualLocalTime
  pub time : GlobalTime

abbrev pub time_in : Option TimeBase → VirtualLocalTime → GlobalTime
time_in None t = record { 0 = 0; 1 = 0 }
time_in (Some b) t = time_at b t

-- those of the frames that are of the domain, one after another
abbrev pub noted : (domain : ℕ) → VirtualLocalTime → GlobalTime → List (List ℕ) → List Sent → List Sent
noted domain t g [] older = older
noted domain t g (bytes ∷ rest) older =
    noted domain t g rest
    (cond (eqb (addressed_by bytes) domain) (record { bytes = bytes; at = t; time = g } ∷ older) older)

abbrev pub sent_in : Link → History → List Sent
sent_in k [] = []
sent_in k (at_master c ∷ h) =
    noted k.domain (reading_of c) (time_in (master_record k h).base (reading_of c))
    (given_by (answer_to (master_after k h) c))
    (sent_in k h)
sent_in k (at_slave c ∷ h) = sent_in k h

-- the kind, as byte 0 says it, and the counter, as byte 2 does
abbrev pub is_sync : Sent → Bool
is_sync s = eqb (get_or s.bytes 0 0) 0x10 || eqb (get_or s.bytes 0 0) 0x20

abbrev pub is_fup : Sent → Bool
is_fup s = eqb (get_or s.bytes 0 0) 0x18 || eqb (get_or s.bytes 0 0) 0x28

abbrev pub counter_in : Sent → ℕ
counter_in s = counter_of (get_or s.bytes 2 0)

-- ---- Heard: what a frame call hands in that passes tests 2 to 5 in the domain. "A copy arrives at the reading of
-- the frame call that hands it in."
abbrev pub is_read : Result Frame NoFrame → (domain : ℕ) → Bool
is_read (Err LengthNot8) domain = false
is_read (Err NoSuchType) domain = false
is_read (Ok values) domain = eqb (domain_in values) domain

abbrev pub is_heard : Link → List ℕ → Bool
is_heard k bytes =
    is_read (read_of bytes) k.domain && is_taken (slave_settings k).mode (slave_settings k).ids bytes

pub record Heard : Type 0 where
  pub bytes : List ℕ
  pub at : VirtualLocalTime

abbrev pub heard_by : Link → Call → List Heard
heard_by k (frame t bytes) = cond (is_heard k bytes) (record { bytes = bytes; at = t } ∷ []) []
heard_by k (read domain t) = []
heard_by k (set domain t s ns) = []
heard_by k (cycle t out) = []
heard_by k (confirm domain t counter out) = []

abbrev pub heard_in : Link → History → List Heard
heard_in k [] = []
heard_in k (at_master c ∷ h) = heard_in k h
heard_in k (at_slave c ∷ h) = heard_by k c ++ heard_in k h
