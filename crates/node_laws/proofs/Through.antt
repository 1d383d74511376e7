-- "A domain's answers don't depend on calls for other domains, save through number 1 and, for masters, through S and
-- the round." No contract cites this file.
--   through_one       a call's answer depends on the kept reading through number 1 alone
--   save_number_one   so that calls for other domains, however many, change a domain's answer through number 1 alone
--   cycle_own         a main cycle leaves each record as it was, or as its own SYNC makes it
-- Assumes nothing.
use Rattle.std.specs.Prelude.{Err, Ok, ⊤}
use Prim.Native.Nat.{ℕ, ◌%◌}
use mathlib.Core.Path.{◌≡◌, refl, ap, ◌∙◌}
use mathlib.Core.Logic.{inl, inr}
use mathlib.Core.Bool.{Bool, true, false, cond}
use mathlib.Core.List.{List}
use lib.ListN.{length}
use Rattle.promise.proofs.Tests.{either}
use Rattle.clock.specs.declared.reading.VirtualLocalTime.{VirtualLocalTime}
use Rattle.frame_read.specs.Read.{read_of}
use Rattle.refusal.specs.declared.Refusal.TheVariants.{NoRoom, Domain as not_for_lem}
use Rattle.settings.specs.Node.{places}
use Rattle.admission.specs.declared.Needed.TheVariants.{Master}
use Rattle.admission.specs.Reading.{is_good_reading}
use Rattle.admission.specs.Admission.{is_for}
use Rattle.admission.specs.FrameAdmission.{read_for}
use Rattle.domain.specs.declared.Domain.{Domain}
use Rattle.domain.specs.Records.{record_at}
use Rattle.master_send.specs.Send.{send_of}
use Rattle.call_frame.specs.FrameCall.{frame_call_as}
use Rattle.call_set.specs.SetCall.{set_call_as}
use Rattle.call_confirm.specs.ConfirmCall.{confirm_call_as}
use Rattle.round.specs.FirstDue.{served_of}
use Rattle.round.proofs.Places.{among}
use Rattle.round.proofs.FirstDue.{first_due}
use Rattle.node.specs.declared.Node.{Node}
use Rattle.node.specs.Frame.{addressed_by}
use Rattle.node.specs.CycleAnswer.{cycle_count}
use Rattle.node.specs.Cycle.{is_room_for, gone_from, cycled_by, cycle_refused, cycle_bytes}
use Rattle.node.specs.Confirm.{confirmed_bytes}
use Rattle.node_call.specs.Calls.{
  Call,
  frame,
  read,
  set,
  cycle,
  confirm,
  reading_of,
  node_after,
  node_after_all,
  Answer,
  numbered,
  sends,
  follows,
  answer_to,
}
use Rattle.node_laws.specs.Apart.{Own, AllElsewhere, keeping, Timely, OwnSent}
use Rattle.node_laws.proofs.Independent.{independent}
use Rattle.frame.specs.declared.values.Frame.{Frame}
use Rattle.frame.specs.declared.values.Fup.{Fup}
use Rattle.node.specs.declared.NodeStep.{NodeStep}
use Rattle.refusal.specs.Numbers.{Outcome, outcome_number}
use Rattle.slave_answer.specs.declared.Taken.{Taken}

-- ---- an admitted call does not look at the kept reading

module _ (d : Domain) (k l t : VirtualLocalTime) where
  frame_same :
      (a : Outcome Frame) (bytes : List ℕ) →
      (frame_call_as a d k t bytes).answer ≡ (frame_call_as a d l t bytes).answer
  frame_same (Err refusal) bytes = refl
  frame_same (Ok values) bytes = refl

  set_same :
      (a : Outcome ⊤) (seconds nanoseconds : ℕ) →
      (set_call_as a d k t seconds nanoseconds).answer ≡ (set_call_as a d l t seconds nanoseconds).answer
  set_same (Err refusal) seconds nanoseconds = refl
  set_same (Ok tt) seconds nanoseconds = refl

  confirm_same :
      (a : Outcome ⊤) (counter length : ℕ) →
      (confirm_call_as a d k t counter length).answer ≡ (confirm_call_as a d l t counter length).answer
  confirm_same (Err refusal) counter length = refl
  confirm_same (Ok tt) counter length = refl

module _ (n : Node) (k t : VirtualLocalTime) (out : List ℕ) where
  abbrev cycle_told : Node → NodeStep (Outcome ℕ) → Answer
  cycle_told m r = sends (outcome_number r.answer) (cycle_count r.answer) (cycle_bytes r.answer m t out)

  abbrev gone : Node → NodeStep (Outcome ℕ)
  gone m = cycled_by m t (gone_from m t)

  cycle_same :
      (room : Bool) →
      cycle_told (keeping n k) (cond room (gone (keeping n k)) (cycle_refused (keeping n k) NoRoom))
      ≡ cycle_told n (cond room (gone n) (cycle_refused n NoRoom))
  cycle_same true = refl
  cycle_same false = refl

-- ---- a call

-- a master's domain, asked for
abbrev pub for_master : Domain → (asked : ℕ) → Outcome ⊤
for_master d asked = cond (is_for d.number d.settings.role asked Master) (Ok tt) (Err not_for_lem)

same_answer :
    (n : Node) (k : VirtualLocalTime) (c : Call) → is_good_reading n.kept (reading_of c) ≡ true →
    is_good_reading k (reading_of c) ≡ true → answer_to (keeping n k) c ≡ answer_to n c
same_answer n k (frame t bytes) p q =
    let d = record_at n.domains (addressed_by bytes) in
    let admission = read_for (read_of bytes) d.number d.settings.role in
    rw (p, q)
    (ap (λ (a : Outcome Taken). numbered (outcome_number a)) (frame_same d k n.kept t admission bytes))
same_answer n k (read domain t) p q = rw (p, q) refl
same_answer n k (set domain t s ns) p q =
    let d = record_at n.domains (domain % places) in
    rw (p, q)
    (ap (λ (a : Outcome ⊤). numbered (outcome_number a)) (set_same d k n.kept t (for_master d domain) s ns))
same_answer n k (cycle t out) p q = rw (p, q) (cycle_same n k t out (is_room_for n (length out)))
same_answer n k (confirm domain t counter out) p q =
    let d = record_at n.domains (domain % places) in
    let told : Outcome Fup → Answer = λ a. follows (outcome_number a) (confirmed_bytes a n domain out) in
    rw (p, q) (ap told (confirm_same d k n.kept t (for_master d domain) counter (length out)))

pub through_one :
    (n : Node) (k : VirtualLocalTime) (c : Call) → Timely n c → Timely (keeping n k) c →
    answer_to (keeping n k) c ≡ answer_to n c
through_one n k c p q = same_answer n k c p q

-- ---- calls for other domains

pub save_number_one :
    (n : Node) (cs : List Call) (c : Call) (i : ℕ) → AllElsewhere n cs i → Own c i →
    Timely n c → Timely (node_after_all n cs) c → answer_to (node_after_all n cs) c ≡ answer_to n c
save_number_one n cs c i e o p q = independent n cs c i e o ∙ through_one n (node_after_all n cs).kept c p q

-- ---- a main cycle

pub cycle_own :
    (n : Node) (t : VirtualLocalTime) (out : List ℕ) (i : ℕ) → length n.domains ≡ places →
    OwnSent (record_at n.domains i) t (record_at (node_after n (cycle t out)).domains i)
cycle_own n t out i size =
    let P : NodeStep (Outcome ℕ) → Type 0 = λ r. OwnSent (record_at n.domains i) t (record_at r.node.domains i) in
    let served = served_of n.domains n.round t n.syncs_per_cycle in
    let told = first_due n.domains n.round t n.syncs_per_cycle size in
    either P (is_good_reading n.kept t)
    (either P (is_room_for n (length out))
    (among
    (λ (p : ℕ). record_at (gone_from n t).domains p ≡ (send_of (record_at n.domains p) t).domain)
    (P (cycled_by n t (gone_from n t))) i inr served told.sends (λ others. inl (told.stays i others)))
    (inl refl))
    (inl refl)
