-- A master that is due waits for no more main cycles than the masters divided by S, rounded up. No contract cites this
-- file.
--   cycle_passes   a completed main cycle in which a due master does not send leaves S masters fewer ahead of it
--   call_passes    any other call leaves as many
--   waits_most     so the completed main cycles that it waits for, times S, are fewer than the masters
--   each_sends     the theorem: `EachSends`
-- Assumes nothing.
use Rattle.std.specs.Prelude.{Option, is_some}
use Prim.Native.Nat.{ℕ, ◌+◌, ◌-◌, ◌*◌, ◌%◌, ◌≤◌, ◌<◌}
use mathlib.Core.Path.{◌≡◌, refl, sym, ap, ◌∙◌, subst}
use mathlib.Core.Logic.{◌≢◌}
use mathlib.Core.Bool.{Bool, true, false, cond, true≢false, false≢true}
use mathlib.Core.List.{List, [], ◌∷◌}
use native.Mathlib.Nat.{
  mod-lt,
  mod-eq_of_lt,
  mul-le-mul_right,
  lt-div-mul-add,
  lt_of_le_of_lt,
  not-le_of_lt,
}
use native.Mathlib.Omega.{arith}
use lib.Dec.{eqb}
use lib.ListN.{length}
use Rattle.promise.proofs.Tests.{either, neither}
use Rattle.clock.specs.declared.reading.VirtualLocalTime.{VirtualLocalTime}
use Rattle.settings.specs.declared.domain_settings.DomainSettings.{DomainSettings}
use Rattle.settings.specs.Node.{places}
use Rattle.admission.specs.Reading.{is_good_reading}
use Rattle.domain.specs.declared.Domain.{Domain}
use Rattle.domain.specs.Records.{record_at}
use Rattle.master_rules.specs.Due.{is_master}
use Rattle.master_rules.proofs.Laws.{by_due}
use Rattle.master_send.specs.Send.{is_due}
use Rattle.round.specs.FirstDue.{walk, served_of, NotIn, next_behind}
use Rattle.round.proofs.Places.{sum_of}
use Rattle.round.proofs.Walk.{walk_all, walk_sum}
use Rattle.round.proofs.FirstDue.{round_next}
use Rattle.node.specs.declared.Node.{Node}
use Rattle.node.specs.Cycle.{is_room_for}
use Rattle.node_call.specs.Calls.{Call, frame, read, set, cycle, confirm, reading_of, node_after}
use Rattle.node_laws.specs.Reachable.{IsCall, AreCalls}
use Rattle.node_laws.specs.Apart.{is_master_at}
use Rattle.node_laws.specs.Good.{Good}
use Rattle.node_laws.proofs.Reachable.{call_good, reachable_good}
use Rattle.node_laws.proofs.Stays.{settings_stay, syncs_stay}
use Rattle.waits.specs.Waits.{
  is_completed,
  completed,
  does_send,
  has_sent,
  masters,
  rounded_up,
  DueUntilSent,
  EachSends,
}
use Rattle.waits.proofs.Ahead.{ahead, ahead_same, ahead_fewer, passed_over}
use Rattle.waits.proofs.Senders.{among_not, completed_cycle, sends_served}
use Rattle.master_rules.specs.declared.due.Due.{Due}
use Rattle.node.specs.declared.NodeStep.{NodeStep}
use Rattle.refusal.specs.Numbers.{Outcome, outcome_number}

-- ---- the masters ahead of a place, from where the round stands

abbrev master_one : Node → ℕ → ℕ
master_one n p = cond (is_master_at n p) 1 0

ahead_from : Node → (at i : ℕ) → ℕ
ahead_from n at i = ahead (master_one n) i (walk places places at)

pub masters_ahead : Node → (i : ℕ) → ℕ
masters_ahead n i = ahead_from n (n.round % places) i

-- ---- no call changes who is a master

master_stays : (n : Node) (c : Call) (p : ℕ) → is_master_at (node_after n c) p ≡ is_master_at n p
master_stays n c p = ap (λ (s : DomainSettings). is_master s.role) (settings_stay n c p)

from_stays : (n : Node) (c : Call) (at i : ℕ) → ahead_from (node_after n c) at i ≡ ahead_from n at i
unfolding ahead_from
from_stays n c at i =
    ahead_same (master_one (node_after n c)) (master_one n) i (λ p. ap (λ (b : Bool). cond b 1 0) (master_stays n c p))
    (walk places places at)

-- ---- a call that is no completed main cycle leaves the round where it stands

round_stays : (n : Node) (c : Call) → is_completed n c ≡ false → (node_after n c).round ≡ n.round
round_stays n (frame t bytes) = λ e. refl
round_stays n (read domain t) = λ e. refl
round_stays n (set domain t s ns) = λ e. refl
round_stays n (cycle t out) =
    let P : NodeStep (Outcome ℕ) → Type 0 = λ r. eqb (outcome_number r.answer) 0 ≡ false → r.node.round ≡ n.round in
    either P (is_good_reading n.kept t)
    (either P (is_room_for n (length out)) (λ e. absurd (true≢false e)) (λ e. refl)) (λ e. refl)
round_stays n (confirm domain t counter out) = λ e. refl

pub call_passes :
    (n : Node) (c : Call) (i : ℕ) → is_completed n c ≡ false → masters_ahead (node_after n c) i ≡ masters_ahead n i
unfolding masters_ahead
call_passes n c i e =
    ap (λ (first : ℕ). ahead_from (node_after n c) (first % places) i) (round_stays n c e)
    ∙ from_stays n c (n.round % places) i

-- ---- a completed main cycle

-- who is due is a master
due_master : (d : Domain) (t : VirtualLocalTime) → is_due d t ≡ true → is_master d.settings.role ≡ true
due_master d t =
    by_due (λ (due : Option Due). is_some due ≡ true → is_master d.settings.role ≡ true) d.settings.role
    d.settings.period d.base d.sending t
    (λ e. absurd (false≢true e)) (λ b told e. ap is_master told.master)

comes : (i first : ℕ) → i < places → NotIn i (walk places places (first % places)) → ⊥
comes i first h none =
    walk_all places (λ (q : ℕ). q ≢ i) i h (first % places) (mod-lt first (omega arith)) none refl

module _ (n : Node) (good : Good n) (i : ℕ) (below : i < places) where
  module _ (t : VirtualLocalTime) (out : List ℕ) (c : is_completed n (cycle t out) ≡ true) where
    abbrev served : List ℕ
    served = served_of n.domains n.round t n.syncs_per_cycle

    starts : (node_after n (cycle t out)).round ≡ next_behind places served n.round
    starts =
        ap (λ (m : Node). m.round) (completed_cycle n t out c)
        ∙ round_next n.domains n.round t n.syncs_per_cycle

    counts : (p : ℕ) → is_due (record_at n.domains p) t ≡ true → 1 ≤ master_one n p
    counts p due = rw (due_master (record_at n.domains p) t due) (omega arith)

    passed :
        is_due (record_at n.domains i) t ≡ true → does_send n (cycle t out) i ≡ false →
        ahead_from n (next_behind places served n.round) i + n.syncs_per_cycle ≤ masters_ahead n i
    unfolding masters_ahead ahead_from
    passed due silent =
        passed_over (master_one n) i places (λ (p : ℕ). is_due (record_at n.domains p) t) counts due
        n.syncs_per_cycle (n.round % places) n.round (omega (arith, good.syncs)) (comes i n.round below)
        (among_not i served (sym (sends_served n t out good c i) ∙ silent))

  pub cycle_passes :
      (c : Call) → IsCall c → is_completed n c ≡ true → is_due (record_at n.domains i) (reading_of c) ≡ true →
      does_send n c i ≡ false → masters_ahead (node_after n c) i + n.syncs_per_cycle ≤ masters_ahead n i
  unfolding masters_ahead
  cycle_passes (frame t bytes) is e = absurd (false≢true e)
  cycle_passes (read domain t) is e = absurd (false≢true e)
  cycle_passes (set domain t s ns) is e = absurd (false≢true e)
  cycle_passes (cycle t out) is e = λ due silent.
      let after = node_after n (cycle t out) in
      let start = mod-eq_of_lt (call_good n (cycle t out) is good).round ∙ starts t out e in
      let same = ap (λ (at : ℕ). ahead_from after at i) start ∙ from_stays n (cycle t out) _ i in
      omega (arith, same, passed t out e due silent)
  cycle_passes (confirm domain t counter out) is e = absurd (false≢true e)

-- ---- any calls

module _ (i : ℕ) (below : i < places) where
  waited :
      (n : Node) (cs : List Call) → Good n → AreCalls cs → DueUntilSent n cs i → has_sent n cs i ≡ false →
      completed n cs * n.syncs_per_cycle ≤ masters_ahead n i
  waited n [] good are due silent = omega arith
  waited n (c ∷ rest) good are due silent =
      let none = neither (does_send n c i) (has_sent (node_after n c) rest i) silent in
      step (is_completed n c) refl none.0
      (waited (node_after n c) rest (call_good n c are.0 good) are.1 (due.1 none.0) none.1)
    where
      step :
          (b : Bool) → is_completed n c ≡ b → does_send n c i ≡ false →
          completed (node_after n c) rest * (node_after n c).syncs_per_cycle ≤ masters_ahead (node_after n c) i →
          (cond b 1 0 + completed (node_after n c) rest) * n.syncs_per_cycle ≤ masters_ahead n i
      step true e none later =
          let most = rw (syncs_stay n c) at later in
          omega (arith, most, cycle_passes n good i below c are.0 e (due.0 e) none)
      step false e none later =
          let most = rw (syncs_stay n c) at later in omega (arith, most, call_passes n c i e)

  -- on a walk round all places every master is counted
  all_counted : (n : Node) (at : ℕ) → at < places → sum_of (master_one n) (walk places places at) ≡ masters n
  all_counted n at h = omega (arith, walk_sum places (master_one n) at h)

  most_ahead : (n : Node) → is_master_at n i ≡ true → masters_ahead n i < masters n
  unfolding masters_ahead ahead_from
  most_ahead n is =
      let at = n.round % places in
      let counts : 1 ≤ master_one n i = rw is (omega arith) in
      subst (λ (m : ℕ). ahead (master_one n) i (walk places places at) < m)
      (all_counted n at (mod-lt n.round (omega arith)))
      (ahead_fewer (master_one n) i (walk places places at) counts (comes i n.round below))

  pub waits_most :
      (n : Node) (cs : List Call) → Good n → is_master_at n i ≡ true → AreCalls cs → DueUntilSent n cs i →
      has_sent n cs i ≡ false → completed n cs * n.syncs_per_cycle < masters n
  waits_most n cs good is are due silent = lt_of_le_of_lt (waited n cs good are due silent) (most_ahead n is)

-- ---- the theorem

-- so many cycles of s are no fewer than m
all_within : (m s cycles : ℕ) → 1 ≤ s → rounded_up m s ≤ cycles → m ≤ cycles * s
all_within m s cycles h l = omega (arith, lt-div-mul-add {a = m + (s - 1)} h, mul-le-mul_right s l)

pub each_sends : EachSends
each_sends n r i below is cs are due enough = go (has_sent n cs i) refl
  where
    go : (b : Bool) → has_sent n cs i ≡ b → b ≡ true
    go true e = refl
    go false e =
        let good = reachable_good n r in
        absurd
        (not-le_of_lt (waits_most i below n cs good is are due e)
        (all_within (masters n) n.syncs_per_cycle (completed n cs) good.syncs.0 enough))
