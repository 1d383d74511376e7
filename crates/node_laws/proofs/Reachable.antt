-- Every reachable node is good, so that what holds of good records holds of all that a node holds. No
-- contract cites this file.
--   call_good        a call, refused or not, leaves a good node good
--   reachable_good   every reachable node is good
--   record_good      and so is each of its records
--   received_most    a received time is at most 4,294,967,298 s
--   read_most        a read time is at most 5,294,967,298 s, and has nanoseconds in range
--   ovs_most         a FUP's OVS is at most 3, as its two bits can hold
--   fup_exact        and its time is that of the open SYNC plus the reading's advance, to the nanosecond
--   base_exact       a base's time at t is its time plus t minus its reading
--   sync_back        demand 2: each frame of a main cycle is read back as the values sent
--   fup_back         and so is the FUP of a confirmation
-- Assumes nothing.
use Rattle.std.specs.Prelude.{Ok, Some}
use Prim.Native.Nat.{ℕ, ◌%◌, ◌≤◌, ◌<◌}
use mathlib.Core.Path.{◌≡◌}
use mathlib.Core.Bool.{true}
use mathlib.Core.List.{List}
use native.Mathlib.Omega.{arith}
use lib.ListN.{length}
use Rattle.settings.specs.Node.{places}
use Rattle.frame.specs.declared.values.Fup.{Fup}
use Rattle.promise.proofs.Tests.{either, either_told}
use Rattle.clock.specs.declared.reading.VirtualLocalTime.{VirtualLocalTime}
use Rattle.clock.specs.declared.base.TimeBase.{TimeBase}
use Rattle.clock.specs.Base.{time_at}
use Rattle.admission.specs.Reading.{is_good_reading}
use Rattle.domain.specs.declared.Domain.{Domain}
use Rattle.domain.specs.Records.{record_at}
use Rattle.node.specs.declared.Node.{Node}
use Rattle.node.specs.Store.{stored_in}
use Rattle.node.specs.Frame.{addressed_by}
use Rattle.node.specs.Read.{node_read_of}
use Rattle.node.specs.Cycle.{is_room_for, gone_from, cycled_by, node_cycle_of}
use Rattle.node.specs.Confirm.{node_confirm_of}
use Rattle.node_call.specs.Calls.{Call, frame, read, set, cycle, confirm, node_after}
use Rattle.node_laws.specs.Reachable.{IsCall, Reachable, new, after}
use Rattle.node_laws.specs.Good.{RecordGood, Good}
use Rattle.node_laws.specs.Bounds.{HoldsReceived, ShowsRead, OvsMost, TimeExact, Follows}
use Rattle.round.specs.FirstDue.{Each}
use Rattle.node_laws.specs.Back.{SyncBack}
use Rattle.node_laws.specs.Demands.{FupBack}
use Rattle.admission.proofs.Laws.{good_reading}
use Rattle.node_laws.proofs.Later.{Grows}
use Rattle.node_laws.proofs.Slave.{frame_good, frame_kept_lem}
use Rattle.node_laws.proofs.Master.{set_good, set_kept, confirm_good, confirm_kept}
use Rattle.node_laws.proofs.Rounds.{AllGood, all_later, stored_good, round_good}
use Rattle.node_laws.proofs.Fresh.{new_good}
use Rattle.node_laws.proofs.ReadBack.{good_sync_back, good_fup_back}
use Rattle.node_laws.proofs.Bounds.{
  received_within,
  read_within,
  call_ovs_within,
  follow_exact,
  time_exact_here,
}
use Rattle.node.specs.declared.NodeStep.{NodeStep}
use Rattle.refusal.specs.Numbers.{Outcome}

all_good_lem : (n : Node) → Good n → AllGood n.kept n.domains
all_good_lem n g = record { sixteen = g.sixteen; records = g.records }

-- ---- a record stored, a reading kept

stored :
    (n : Node) (at : ℕ) (d : Domain) (kept : VirtualLocalTime) → Good n → at < places → Grows n.kept kept →
    RecordGood at kept d → Good (stored_in n at d kept)
stored n at d kept g h grows r =
    let later = all_later n.kept kept n.domains grows.0 (all_good_lem n g) in
    let all = stored_good kept n.domains at d h later r in
    record {
      sixteen = all.sixteen;
      kept = grows.1 g.kept;
      syncs = g.syncs;
      round = g.round;
      records = all.records;
    }

-- ---- a round

cycled :
    (n : Node) (t : VirtualLocalTime) → Good n → is_good_reading n.kept t ≡ true →
    Good (cycled_by n t (gone_from n t)).node
cycled n t g e =
    let range = good_reading n.kept t e in
    let gone =
    round_good n.domains n.round n.kept t n.syncs_per_cycle range.0 g.round (all_good_lem n g)
    in
    record {
      sixteen = gone.0.sixteen;
      kept = range.1;
      syncs = g.syncs;
      round = gone.1;
      records = gone.0.records;
    }

cycle_good : (n : Node) (t : VirtualLocalTime) (length : ℕ) → Good n → Good (node_cycle_of n t length).node
cycle_good n t length g =
    either_told (λ (r : NodeStep (Outcome ℕ)). Good r.node) (is_good_reading n.kept t)
    (λ e. either (λ (r : NodeStep (Outcome ℕ)). Good r.node) (is_room_for n length) (cycled n t g e) g)
    (λ e. g)

-- ---- a call

pub call_good : (n : Node) (c : Call) → IsCall c → Good n → Good (node_after n c)
call_good n (frame t bytes) is g =
    let at = addressed_by bytes in
    let d = record_at n.domains at in
    stored n at _ _ g (omega arith) (frame_kept_lem n.kept t bytes d)
    (frame_good at n.kept t bytes d is (g.records at (omega arith)))
call_good n (read domain t) is g = g
call_good n (set domain t s ns) is g =
    let at = domain % places in
    let d = record_at n.domains at in
    stored n at _ _ g (omega arith) (set_kept n.kept domain t s ns d)
    (set_good at n.kept domain t s ns d is (g.records at (omega arith)))
call_good n (cycle t out) is g = cycle_good n t (length out) g
call_good n (confirm domain t counter out) is g =
    let at = domain % places in
    let d = record_at n.domains at in
    stored n at _ _ g (omega arith) (confirm_kept n.kept domain t counter (length out) d)
    (confirm_good at n.kept domain t counter (length out) d (g.records at (omega arith)))

pub reachable_good : (n : Node) → Reachable n → Good n
reachable_good n (new s is) = new_good s is
reachable_good n (after m r c is) = call_good m c is (reachable_good m r)

pub record_good : (n : Node) → Reachable n → (i : ℕ) → i < places → RecordGood i n.kept (record_at n.domains i)
record_good n r = (reachable_good n r).records

-- ---- the paper's bounds, and its times to the nanosecond

module _ (n : Node) (r : Reachable n) where
  at : (i : ℕ) → RecordGood (i % places) n.kept (record_at n.domains (i % places))
  at i = record_good n r (i % places) (omega arith)

  pub received_most : (i : ℕ) → i < places → HoldsReceived (record_at n.domains i)
  received_most i h = received_within i n.kept (record_at n.domains i) (record_good n r i h)

  pub read_most : (domain : ℕ) (t : VirtualLocalTime) → ShowsRead (node_read_of n domain t)
  read_most domain =
      read_within (domain % places) n.kept (record_at n.domains (domain % places)) (at domain) domain

  module _ (domain : ℕ) (t : VirtualLocalTime) (counter length : ℕ) where
    pub ovs_most : OvsMost (node_confirm_of n domain t counter length).answer
    ovs_most =
        call_ovs_within (domain % places) n.kept (record_at n.domains (domain % places)) (at domain) domain t
        counter length

    pub fup_exact :
        (f : Fup) → (node_confirm_of n domain t counter length).answer ≡ Ok f →
        Follows (record_at n.domains (domain % places)).sending counter t f
    fup_exact =
        follow_exact (domain % places) n.kept (record_at n.domains (domain % places)) (at domain) domain t
        counter length

  pub base_exact :
      (i : ℕ) → i < places → (b : TimeBase) (t : VirtualLocalTime) → (record_at n.domains i).base ≡ Some b →
      n.kept.0 ≤ t.0 → t.0 ≤ 1000000000000000000 → TimeExact b.time b.at (time_at b t) t
  base_exact i h = time_exact_here i n.kept (record_at n.domains i) (record_good n r i h)

  -- ---- demand 2

  pub sync_back : (t : VirtualLocalTime) → Each (SyncBack n.domains t) (gone_from n t).frames
  sync_back = good_sync_back n (reachable_good n r)

  pub fup_back :
      (domain : ℕ) (t : VirtualLocalTime) (counter : ℕ) (out : List ℕ) → FupBack n domain t counter out
  fup_back = good_fup_back n (reachable_good n r)
