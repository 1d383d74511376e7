-- Laws of a node's calls, over the definitions that the promises cite. No contract cites this file.
--   refusal_keeps         a refused call leaves the node as it was, but under 6 and 15
--   refusal_keeps_bytes   and the lent bytes under every number; it counts no frame
--   read_keeps            a read changes nothing
--   other_domains         a call for another domain leaves a record as it was, and so does a main cycle if the
--                         record is not a master's
--   own_domain            a domain's answers depend on its record and the kept reading alone
--   own_after             and so do its record and the kept reading after the call
-- Assumes nothing.
use Rattle.std.specs.Prelude.{Option}
use Prim.Native.Nat.{ℕ, zero, suc, ◌%◌, ◌<◌}
use mathlib.Core.Path.{◌≡◌, refl, sym, ap, ◌∙◌}
use mathlib.Core.Bool.{Bool, true, false, false≢true}
use mathlib.Core.List.{List}
use lib.Dec.{ltb, eqb}
use lib.ListN.{length, set as put}
use lib.Seq.{get_or-set_same, get_or-set_other, set-get_or}
use borrow.Author.Tests.{eqb-true, eqb-false}
use Rattle.settings.specs.Node.{places}
use Rattle.refusal.specs.Numbers.{StateStays, Outcome, outcome_number}
use Rattle.round.specs.Turn.{next_place}
use Rattle.promise.proofs.Tests.{either}
use Rattle.clock.specs.declared.reading.VirtualLocalTime.{VirtualLocalTime}
use Rattle.admission.specs.Reading.{is_good_reading}
use Rattle.domain.specs.declared.Domain.{Domain}
use Rattle.master_rules.specs.Due.{is_master}
use Rattle.master_rules.proofs.Laws.{by_due}
use Rattle.master_send.specs.Send.{send_as, send_of}
use Rattle.domain.specs.Records.{record_at}
use Rattle.round.specs.Turn.{turn_of, next_after}
use Rattle.round.specs.Round.{sent_after, goes}
use Rattle.node.specs.declared.Node.{Node}
use Rattle.node.specs.Store.{stored_in}
use Rattle.node.specs.Frame.{addressed_by}
use Rattle.node.specs.CycleAnswer.{cycle_count}
use Rattle.node.specs.Cycle.{is_room_for, node_cycle_of, cycle_bytes}
use Rattle.node_call.specs.Calls.{
  Call,
  frame,
  read,
  set,
  cycle,
  confirm,
  node_after,
  answer_to,
  number_in,
  lent_to,
  lent_after,
  count_in,
}
use Rattle.node_laws.specs.Refused.{IsRefused}
use Rattle.node_laws.specs.Apart.{Elsewhere, Own}
use Rattle.node_laws.proofs.Keeps.{refusal_keeps_frame_call, refusal_keeps_set_call, refusal_keeps_confirm_call}
use Rattle.master_rules.specs.declared.due.Due.{Due}
use Rattle.node.specs.declared.NodeStep.{NodeStep}

-- ---- a refused call

pub stored_same :
    (n : Node) (at : ℕ) {d : Domain} {kept : VirtualLocalTime} →
    (d ≡ record_at n.domains at) × (kept ≡ n.kept) → stored_in n at d kept ≡ n
stored_same n at e =
    λ i. record {
      domains = (ap (put n.domains at) e.0 ∙ set-get_or n.domains at _) i;
      kept = e.1 i;
      syncs_per_cycle = n.syncs_per_cycle;
      round = n.round;
    }

abbrev CycleKeeps : Node → VirtualLocalTime → List ℕ → NodeStep (Outcome ℕ) → Type 0
CycleKeeps n t out r =
    (outcome_number r.answer ≡ 0 → ⊥) →
    (r.node ≡ n) × (cycle_bytes r.answer n t out ≡ out) × (cycle_count r.answer ≡ 0)

cycle_keeps : (n : Node) (t : VirtualLocalTime) (out : List ℕ) → CycleKeeps n t out (node_cycle_of n t (length out))
cycle_keeps n t out =
    either (CycleKeeps n t out) (is_good_reading n.kept t)
    (either (CycleKeeps n t out) (is_room_for n (length out)) (λ e. absurd (e refl)) (λ e. (refl, refl, refl)))
    (λ e. (refl, refl, refl))

pub refusal_keeps : (n : Node) (c : Call) → StateStays (number_in (answer_to n c)) → node_after n c ≡ n
refusal_keeps n (frame t bytes) e =
    stored_same n (addressed_by bytes)
    (refusal_keeps_frame_call (record_at n.domains (addressed_by bytes)) n.kept t bytes e)
refusal_keeps n (read domain t) e = refl
refusal_keeps n (set domain t s ns) e =
    stored_same n (domain % places)
    (refusal_keeps_set_call (record_at n.domains (domain % places)) n.kept domain t s ns e.0)
refusal_keeps n (cycle t out) e = (cycle_keeps n t out e.0).0
refusal_keeps n (confirm domain t counter out) e =
    let d = record_at n.domains (domain % places) in
    let k = refusal_keeps_confirm_call d n.kept domain t counter out e.0 in
    stored_same n (domain % places) (k.0, k.1)

-- ---- the lent bytes, and the frames counted
pub refusal_keeps_bytes :
    (n : Node) (c : Call) → IsRefused n c →
    (lent_after (answer_to n c) ≡ lent_to c) × (count_in (answer_to n c) ≡ 0)
refusal_keeps_bytes n (frame t bytes) e = (refl, refl)
refusal_keeps_bytes n (read domain t) e = (refl, refl)
refusal_keeps_bytes n (set domain t s ns) e = (refl, refl)
refusal_keeps_bytes n (cycle t out) e = let k = cycle_keeps n t out e in (k.1, k.2)
refusal_keeps_bytes n (confirm domain t counter out) e =
    ((refusal_keeps_confirm_call (record_at n.domains (domain % places)) n.kept domain t counter out e).2, refl)

-- ---- a read
pub read_keeps : (n : Node) (domain : ℕ) (t : VirtualLocalTime) → node_after n (read domain t) ≡ n
read_keeps n domain t = refl

-- ---- "A domain's answers don't depend on calls for other domains, save through number 1 and, for masters,
-- through S and the round."

-- who is no master does not send
no_master : (d : Domain) (t : VirtualLocalTime) → is_master d.settings.role ≡ false → (send_of d t).domain ≡ d
no_master d t e =
    by_due (λ (due : Option Due). (send_as due d t).domain ≡ d) d.settings.role d.settings.period d.base d.sending
    t refl
    (λ b told. absurd (false≢true (sym e ∙ ap is_master told.master)))

turn_keeps :
    (b : Bool) (d : Domain) (t : VirtualLocalTime) → is_master d.settings.role ≡ false →
    (turn_of b d t).domain ≡ d
turn_keeps true d t e = no_master d t e
turn_keeps false d t e = refl

-- a turn leaves the record at place i, be it its own or another's
turn_leaves :
    (ds : List Domain) (i at : ℕ) (b : Bool) (t : VirtualLocalTime) →
    is_master (record_at ds i).settings.role ≡ false →
    record_at (put ds at (turn_of b (record_at ds at) t).domain) i ≡ record_at ds i
turn_leaves ds i at b t m = go (eqb i at) refl
  where
    go :
        (same : Bool) → eqb i at ≡ same →
        record_at (put ds at (turn_of b (record_at ds at) t).domain) i ≡ record_at ds i
    go false e = get_or-set_other ds at i _ _ (eqb-false i at e)
    go true e =
        let here : is_master (record_at ds at).settings.role ≡ false = rw (← eqb-true i at e) m in
        ap (λ (l : List Domain). record_at l i)
        (ap (put ds at) (turn_keeps b (record_at ds at) t here) ∙ set-get_or ds at _)

goes_leaves :
    (k at sent most : ℕ) (t : VirtualLocalTime) (ds : List Domain) (next i : ℕ) →
    is_master (record_at ds i).settings.role ≡ false →
    record_at (goes k at sent most t ds next).domains i ≡ record_at ds i
unfolding goes
goes_leaves zero at sent most t ds next i m = refl
goes_leaves (suc k) at sent most t ds next i m =
    let s = turn_of (ltb sent most) (record_at ds at) t in
    let left = turn_leaves ds i at (ltb sent most) t m in
    goes_leaves k (next_place places at) (sent_after s.answer sent) most t (put ds at s.domain)
    (next_after s.answer at next) i (rw left m) ∙ left

pub other_domains :
    (n : Node) (c : Call) (i : ℕ) → Elsewhere n c i →
    record_at (node_after n c).domains i ≡ record_at n.domains i
other_domains n (frame t bytes) i e = get_or-set_other n.domains (addressed_by bytes) i _ _ e
other_domains n (read domain t) i e = refl
other_domains n (set domain t s ns) i e = get_or-set_other n.domains (domain % places) i _ _ e
other_domains n (cycle t out) i e =
    either (λ (r : NodeStep (Outcome ℕ)). record_at r.node.domains i ≡ record_at n.domains i) (is_good_reading n.kept t)
    (either (λ (r : NodeStep (Outcome ℕ)). record_at r.node.domains i ≡ record_at n.domains i) (is_room_for n (length out))
    (goes_leaves places (n.round % places) 0 n.syncs_per_cycle t n.domains n.round i e) refl)
    refl
other_domains n (confirm domain t counter out) i e = get_or-set_other n.domains (domain % places) i _ _ e

pub own_domain :
    (n m : Node) (c : Call) (i : ℕ) → Own c i →
    record_at n.domains i ≡ record_at m.domains i → n.kept ≡ m.kept → answer_to n c ≡ answer_to m c
own_domain n m (frame t bytes) i o e k = rw (o, e, k)
own_domain n m (read domain t) i o e k = rw (o, e, k)
own_domain n m (set domain t s ns) i o e k = rw (o, e, k)
own_domain n m (cycle t out) i o e k = absurd o
own_domain n m (confirm domain t counter out) i o e k = rw (o, e, k)

-- and so do its record and the kept reading after the call
pub stored_at :
    (n : Node) (at i : ℕ) (d : Domain) (kept : VirtualLocalTime) → at ≡ i → i < length n.domains →
    record_at (stored_in n at d kept).domains i ≡ d
stored_at n at i d kept o h = rw o (get_or-set_same n.domains i d _ h)

module _ (n m : Node) (i : ℕ) (there : i < length n.domains) (here : i < length m.domains)
    (same : record_at n.domains i ≡ record_at m.domains i) (kept : n.kept ≡ m.kept) where
  abbrev Alike : Node → Node → Type 0
  Alike x y = (record_at x.domains i ≡ record_at y.domains i) × (x.kept ≡ y.kept)

  stored_alike :
      (at : ℕ) → at ≡ i → {d e : Domain} {k l : VirtualLocalTime} → d ≡ e → k ≡ l →
      Alike (stored_in n at d k) (stored_in m at e l)
  stored_alike at o {d} {e} {k} {l} p q =
      (stored_at n at i d k o there ∙ p ∙ sym (stored_at m at i e l o here), q)

  pub own_after : (c : Call) → Own c i → Alike (node_after n c) (node_after m c)
  own_after (frame t bytes) o =
      stored_alike (addressed_by bytes) o (rw (o, same, kept)) (rw (o, same, kept))
  own_after (read domain t) o = (same, kept)
  own_after (set domain t s ns) o = stored_alike (domain % places) o (rw (o, same, kept)) (rw (o, same, kept))
  own_after (cycle t out) o = absurd o
  own_after (confirm domain t counter out) o =
      stored_alike (domain % places) o (rw (o, same, kept)) (rw (o, same, kept))
