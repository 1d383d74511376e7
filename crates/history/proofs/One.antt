-- Demand 3, of a time that is of one SYNC. No contract cites this file.
--   not_after        what was sent before the copy came was not sent after it
--   each_sync_one    what was handed in is a copy of no other frame
--   each_time_near   the time is at most E behind, and at most C ahead
-- Assumes nothing.
use Prim.Native.Nat.{ℕ, ◌+◌, ◌/◌, ◌^◌, ◌≤◌, ◌<◌}
use mathlib.Core.Path.{◌≡◌, sym, ap, ◌∙◌, subst}
use mathlib.Core.Bool.{true, true≢false}
use mathlib.Core.Logic.{⊎_elim}
use mathlib.Core.List.{List, [], ◌∷◌, ◌++◌}
use native.Mathlib.Omega.{arith}
use lib.ListN.{get_or}
use Rattle.clock.specs.declared.base.TimeBase.{TimeBase}
use Rattle.clock.specs.Reading.{span_of}
use Rattle.clock.specs.Time.{nanoseconds_of}
use Rattle.clock.proofs.Laws.{advance_exact}
use Rattle.settings.specs.declared.domain_settings.DomainSettings.{DomainSettings}
use Rattle.node_call.specs.Calls.{frame}
use Rattle.history.specs.History.{
  Link,
  master_settings,
  on_master,
  on_slave,
  Event,
  at_slave,
  History,
  Sent,
  sent_in,
  In,
  is_sync,
}
use Rattle.history.specs.Demand.{
  Linked,
  AreCalls,
  NeverFall,
  TimeOfOne,
  EachSyncOne,
  Near,
  EachTimeNear,
}
use Rattle.history.proofs.Row.{SyncSent, Row}
use Rattle.history.proofs.Rows.{
  of_sync,
  RowOf,
  Known,
  Pair,
  PairIn,
  each_known,
  apart,
  sync_bytes,
  fup_bytes,
  fup_here,
  row_before,
}
use Rattle.history.proofs.Standing.{standing, sent_past}

-- ---- the part of a history up to a call

calls_before : (after : History) (x : Event) (h : History) → AreCalls (after ++ (x ∷ h)) → AreCalls h
calls_before [] x h calls = calls.0
calls_before (y ∷ after) x h calls = calls_before after x h calls.0

fall_before :
    (k : Link) (after : History) (x : Event) (h : History) → NeverFall k (after ++ (x ∷ h)) → NeverFall k (x ∷ h)
fall_before k [] x h fall = fall
fall_before k (y ∷ after) x h fall = fall_before k after x h fall.0

-- ---- a frame of a row that byte 0 calls a SYNC is one
sync_known :
    (m : DomainSettings) (i : ℕ) (l : List Sent) → RowOf m i l → (z : Sent) → In z l → is_sync z ≡ true → Known m i z
sync_known m i l r z there is =
    ⊎_elim (λ known. known)
    (λ (its : PairIn m i l z).
    absurd (true≢false (sym is ∙ (fup_bytes m i its.pair.counter its.y z its.pair.fup).is_not)))
    (each_known m i r.latest l r.row z there)

module _ (k : Link) (h : History) (fall : NeverFall k h) (b : TimeBase) (one : TimeOfOne k h b) where
  falls : NeverFall k (at_slave (frame b.at one.sync.bytes) ∷ one.before)
  falls = fall_before k one.after _ one.before (subst (NeverFall k) one.copy fall)

  -- what was sent before the copy came was not sent after it
  pub not_after : (z : Sent) → In z (sent_in k one.before) → on_master k z.at ≤ on_slave k b.at
  not_after z there = omega (arith, falls.1, sent_past k one.before falls.0 z there)

module _ (k : Link) (linked : Linked k) (h : History) (calls : AreCalls h) (b : TimeBase) (one : TimeOfOne k h b) where
  rows : RowOf (master_settings k) k.domain (sent_in k one.before)
  rows =
      standing k linked one.before (calls_before one.after _ one.before (subst AreCalls one.copy calls))

  pair : Pair (master_settings k) k.domain one.fup one.sync
  pair =
      let m = master_settings k in
      let r = standing k linked h calls in
      let here =
      row_before m k.domain one.newer (one.fup ∷ one.sync ∷ one.older) r.latest
      (subst (Row m k.domain r.latest) one.sent r.row) in
      fup_here m k.domain here.latest one.fup one.sync one.older here.row one.is_a_fup

  near : NeverFall k h → Near k b one.sync
  near fall =
      let s = one.sync in
      let span = span_of s.at one.fup.at in
      let fits : s.time.0 + (s.time.1 + span) / 1000000000 < 2 ^ 64 =
      omega (arith, pair.sync.seconds, pair.fup.ovs) in
      let whole : nanoseconds_of b.time ≡ nanoseconds_of s.time + span =
      ap nanoseconds_of one.time ∙ advance_exact s.time span fits in
      record {
        behind = omega (arith, whole, one.copied.soon);
        ahead = omega (arith, whole, pair.fup.soon, pair.fup.later, not_after k h fall b one s one.copied.sent);
      }

pub each_time_near : EachTimeNear
each_time_near k linked h calls fall b one = near k linked h calls b one fall

pub each_sync_one : EachSyncOne
each_sync_one k linked exceed h calls fall b one other copy =
    let m = master_settings k in
    let i = k.domain in
    let s = one.sync in
    let r = rows k linked h calls b one in
    let past = not_after k h fall b one in
    let same : is_sync s ≡ is_sync other = ap of_sync copy.same in
    let its = sync_known m i _ r s one.copied.sent one.is_a_sync in
    let others = sync_known m i _ r other copy.sent (sym same ∙ one.is_a_sync) in
    let counter : others.counter ≡ its.counter =
    omega (
      arith,
      its.sent.small,
      others.sent.small,
      (sync_bytes m i its.counter s its.sent).counter_in_lem,
      (sync_bytes m i others.counter other others.sent).counter_in_lem,
      ap (λ (l : List ℕ). get_or l 2 0) copy.same,
    ) in
    ⊎_elim (λ e. e)
    (⊎_elim
    (λ far. absurd (omega (arith, exceed.confirmation, far, copy.soon, past s one.copied.sent)))
    (λ far. absurd (omega (arith, exceed.confirmation, far, one.copied.soon, past other copy.sent))))
    (apart m i r.latest _ r.row its.counter other s copy.sent one.copied.sent
    (subst (λ (c : ℕ). SyncSent m i c other) counter others.sent) its.sent)
