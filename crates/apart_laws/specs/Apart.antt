-- Paper 02, request 11: "keeping one such record per domain", "the kept reading passed beside them": what a product
-- does that has sixteen records and no node. Assumes nothing.
use Rattle.std.specs.Prelude.{ℕ, ◌%◌, ◌<◌, ◌≡◌, List, [], ◌∷◌, map, length, set as put, Err, Ok, Result}
use Rattle.clock.specs.declared.reading.VirtualLocalTime.{VirtualLocalTime}
use Rattle.frame.specs.Values.{domain_in}
use Rattle.frame_read.specs.Read.{read_of}
use Rattle.settings.specs.declared.domain_settings.DomainSettings.{DomainSettings}
use Rattle.settings.specs.Node.{places}
use Rattle.domain.specs.declared.Domain.{Domain}
use Rattle.domain.specs.Records.{record_at}
use Rattle.call_frame.specs.FrameCall.{frame_call_of}
use Rattle.call_read.specs.ReadCall.{read_call_of}
use Rattle.call_set.specs.SetCall.{set_call_of}
use Rattle.call_confirm.specs.ConfirmCall.{confirm_call_of, confirm_bytes}
use Rattle.node.specs.declared.Node.{Node}
use Rattle.node.specs.Frame.{addressed_by}
use Rattle.node.specs.New.{records_of}
use Rattle.node_call.specs.declared.CallAnswer.{CallAnswer}
use Rattle.node_call.specs.declared.CallAnswer.TheVariants as told
use Rattle.node_call.specs.Calls.{Call, node_after, node_after_all, answer_of, bytes_after, lent_to}
use Rattle.node_call.specs.Calls as node
use Rattle.frame.specs.declared.values.Frame.{Frame}
use Rattle.frame_read.specs.declared.NoFrame.{NoFrame}
use Rattle.frame_read.specs.declared.NoFrame.TheVariants.{LengthNot8, NoSuchType}

-- ---- A call that one record takes. A main cycle is none: it goes round all of them.
pub data OneCall : Type 0 where
  frame : (t : VirtualLocalTime) (bytes : List ℕ) → OneCall
  read : (domain : ℕ) (t : VirtualLocalTime) → OneCall
  set : (domain : ℕ) (t : VirtualLocalTime) (seconds nanoseconds : ℕ) → OneCall
  confirm : (domain : ℕ) (t : VirtualLocalTime) (counter : ℕ) (out : List ℕ) → OneCall

-- ---- The same call to a node.
abbrev pub as_call : OneCall → Call
as_call (frame t bytes) = node.frame t bytes
as_call (read domain t) = node.read domain t
as_call (set domain t s ns) = node.set domain t s ns
as_call (confirm domain t counter out) = node.confirm domain t counter out

-- ---- What is told of a call: its answer, and the lent buffer after it.
pub record Reply : Type 0 where
  pub answer : CallAnswer
  pub out : List ℕ

-- ---- What a call makes of the record that it is made on, by `frame_on`, `read_call`, `set_call`, `confirm_call`.
pub record Done : Type 0 where
  pub reply : Reply
  pub domain : Domain
  pub kept : VirtualLocalTime

abbrev pub done_on : Domain → (kept : VirtualLocalTime) → OneCall → Done
done_on d kept (frame t bytes) =
    let r = frame_call_of d kept t bytes in
    record { reply = record { answer = told.Frame r.answer; out = [] }; domain = r.domain; kept = r.kept }
done_on d kept (read domain t) =
    record {
      reply = record { answer = told.Read (read_call_of d kept domain t); out = [] };
      domain = d;
      kept = kept;
    }
done_on d kept (set domain t s ns) =
    let r = set_call_of d kept domain t s ns in
    record { reply = record { answer = told.Set r.answer; out = [] }; domain = r.domain; kept = r.kept }
done_on d kept (confirm domain t counter out) =
    let r = confirm_call_of d kept domain t counter (length out) in
    record {
      reply =
          record {
            answer = told.Confirm r.answer;
            out = confirm_bytes r.answer d.settings.ids out;
          };
      domain = r.domain;
      kept = r.kept;
    }

-- ---- The records, by their places, and the kept reading beside them.
pub record Apart : Type 0 where
  pub domains : List Domain
  pub kept : VirtualLocalTime

-- ---- A call, and the place of the record that the product makes it on.
pub record Placed : Type 0 where
  pub place : ℕ
  pub call : OneCall

abbrev pub done_in : Apart → Placed → Done
done_in a p = done_on (record_at a.domains p.place) a.kept p.call

-- ---- The record is updated where it stands, and the kept reading is the one that was given back.
abbrev pub apart_after : Apart → Placed → Apart
apart_after a p =
    let done = done_in a p in
    record { domains = put a.domains p.place done.domain; kept = done.kept }

abbrev pub apart_after_all : Apart → List Placed → Apart
apart_after_all a [] = a
apart_after_all a (p ∷ rest) = apart_after_all (apart_after a p) rest

abbrev pub apart_replies : Apart → List Placed → List Reply
apart_replies a [] = []
apart_replies a (p ∷ rest) = (done_in a p).reply ∷ apart_replies (apart_after a p) rest

-- ---- The place is right: a call for a domain from 0 to 15 is made on that domain's record; bytes that are no frame,
-- and a call for a domain above 15, on any.
abbrev pub IsRightFor : Result Frame NoFrame → (place : ℕ) → Type 0
IsRightFor (Ok values) place = domain_in values < places → place ≡ domain_in values
IsRightFor (Err LengthNot8) place = Unit {0}
IsRightFor (Err NoSuchType) place = Unit {0}

abbrev pub IsRightOn : OneCall → (place : ℕ) → Type 0
IsRightOn (frame t bytes) place = IsRightFor (read_of bytes) place
IsRightOn (read domain t) place = domain < places → place ≡ domain
IsRightOn (set domain t s ns) place = domain < places → place ≡ domain
IsRightOn (confirm domain t counter out) place = domain < places → place ≡ domain

abbrev pub IsRight : Placed → Type 0
IsRight p = (p.place < places) × IsRightOn p.call p.place

abbrev pub AllRight : List Placed → Type 0
AllRight [] = Unit {0}
AllRight (p ∷ rest) = IsRight p × AllRight rest

-- ---- A place that is right for any call: byte 2 of the bytes that there are, or the domain, modulo 16.
abbrev pub pick_of : OneCall → ℕ
pick_of (frame t bytes) = addressed_by bytes
pick_of (read domain t) = domain % places
pick_of (set domain t s ns) = domain % places
pick_of (confirm domain t counter out) = domain % places

abbrev pub picked : OneCall → Placed
picked c = record { place = pick_of c; call = c }

-- ---- One record per domain.
abbrev pub OneEach : List Domain → Type 0
OneEach ds = (i : ℕ) → i < places → (record_at ds i).number ≡ i

-- ---- What the product keeps of a node, and what a node tells.
abbrev pub apart_of : Node → Apart
apart_of n = record { domains = n.domains; kept = n.kept }

abbrev pub reply_of : Node → Call → Reply
reply_of n c = record { answer = answer_of n c; out = bytes_after n c (lent_to c) }

abbrev pub replies_of : Node → List Call → List Reply
replies_of n [] = []
replies_of n (c ∷ rest) = reply_of n c ∷ replies_of (node_after n c) rest

abbrev pub calls_of : List Placed → List Call
calls_of ps = map (λ (p : Placed). as_call p.call) ps

-- ---- "the same answers and contents as the node of today"
pub record AsNode (a : Apart) (n : Node) (ps : List Placed) : Type 0 where
  pub contents : apart_after_all a ps ≡ apart_of (node_after_all n (calls_of ps))
  pub answers : apart_replies a ps ≡ replies_of n (calls_of ps)

-- ---- Records that the product makes itself, each by `Domain::new` with its number, and the kept reading 0.
abbrev pub fresh_apart : List DomainSettings → Apart
fresh_apart domains = record { domains = records_of 0 domains; kept = record { 0 = 0 } }
