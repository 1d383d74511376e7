-- What every call keeps of every record, refused or not. No contract cites this file.
--   call_keeps      a relation between a record before and after that each step keeps, every call keeps; a set, a main
--                   cycle or a confirmation (`set_call_keeps` and so on), if each step of a master keeps it
--   base_stays      a base once set stays set, after a call
--   bases_stay      and after calls, however many
--   settings_stay   no call changes the settings in a record
--   syncs_stay      nor S
-- Assumes nothing.
use Rattle.std.specs.Prelude.{Err, None, Ok, Option, Some, ⊤}
use Prim.Native.Nat.{ℕ, zero, suc, ◌%◌}
use mathlib.Core.Path.{◌≡◌, refl, ◌∙◌}
use mathlib.Core.Bool.{Bool}
use mathlib.Core.List.{List, [], ◌∷◌}
use lib.Dec.{leb, ltb}
use lib.ListN.{length, set as put}
use Rattle.settings.specs.Node.{places}
use Rattle.round.specs.Turn.{next_place}
use Rattle.promise.proofs.Tests.{either}
use Rattle.clock.specs.declared.reading.VirtualLocalTime.{VirtualLocalTime}
use Rattle.clock.specs.declared.time.GlobalTime.{GlobalTime}
use Rattle.frame.specs.declared.values.Sync.{Sync}
use Rattle.frame.specs.declared.values.Fup.{Fup}
use Rattle.frame.specs.declared.values.Frame.{Frame}
use Rattle.frame.specs.declared.values.Frame.TheVariants.{Sync as sync, Fup as fup}
use Rattle.frame_check.specs.Check.{is_taken}
use Rattle.admission.specs.declared.Needed.TheVariants.{Master}
use Rattle.admission.specs.Reading.{is_good_reading}
use Rattle.admission.specs.Admission.{admitted_of}
use Rattle.admission.specs.FrameAdmission.{frame_admitted}
use Rattle.domain.specs.declared.Domain.{Domain}
use Rattle.domain.specs.declared.Pair.{Pair}
use Rattle.domain.specs.declared.LastSync.{LastSync}
use Rattle.domain.specs.declared.Sending.TheVariants.{Confirmed}
use Rattle.domain.specs.Fields.{with_last, with_sending}
use Rattle.slave_pair.specs.Join.{joined_of}
use Rattle.slave_counter.specs.declared.RowCheck.{RowCheck}
use Rattle.slave_counter.specs.declared.RowCheck.TheVariants.{NotGood, Joins, Complete}
use Rattle.slave_sync.specs.Sync.{check_for, with_pair, sync_as}
use Rattle.slave_fup.specs.Fup.{updated_of, fup_as}
use Rattle.slave_frame.specs.Step.{kind_of}
use Rattle.master_set.specs.Set.{with_time}
use Rattle.master_send.specs.Send.{due_in, sent_of, send_as}
use Rattle.master_follow.specs.Follow.{follow_of}
use Rattle.master_confirm.specs.Confirm.{confirm_as}
use Rattle.call_frame.specs.FrameCall.{frame_call_as}
use Rattle.call_set.specs.SetCall.{set_call_as}
use Rattle.call_confirm.specs.ConfirmCall.{confirm_call_as}
use Rattle.domain.specs.Records.{record_at}
use Rattle.round.specs.Round.{sent_after, goes}
use Rattle.round.specs.Turn.{turn_of, next_after}
use Rattle.node.specs.declared.Node.{Node}
use Rattle.node.specs.Frame.{addressed_by}
use Rattle.node.specs.Cycle.{is_room_for}
use Rattle.node_call.specs.Calls.{Call, frame, read, set, cycle, confirm, node_after, node_after_all}
use Rattle.node_laws.specs.Good.{BaseStays}
use Rattle.node_laws.specs.Apart.{SettingsStay}
use Rattle.domain.specs.declared.DomainStep.{DomainStep}
use Rattle.domain.specs.declared.Leap.{Leap}
use Rattle.master_follow.specs.declared.Follow.{Follow}
use Rattle.master_rules.specs.declared.due.Due.{Due}
use Rattle.node.specs.declared.NodeStep.{NodeStep}
use Rattle.refusal.specs.Numbers.{Outcome}
use Rattle.slave_answer.specs.declared.Taken.{Taken}

-- ---- A relation between a record before and after: what stays as it was keeps it, and so does each step: of a master
-- a set, a SYNC sent, a confirmation; of a slave a SYNC accepted, one that is refused by 6 or 15, a FUP taken.
pub record KeptByMaster (R : (before after : Domain) → Type 0) : Type 0 where
  pub same : (d : Domain) → R d d
  pub onward : (a b c : Domain) → R a b → R b c → R a c
  pub timed : (d : Domain) (g : GlobalTime) (t : VirtualLocalTime) → R d (with_time d g t)
  pub sent :
      (d : Domain) (seconds nanoseconds : ℕ) (t : VirtualLocalTime) → R d (sent_of d seconds nanoseconds t).domain
  pub confirmed : (d : Domain) (at : VirtualLocalTime) → R d (with_sending d (Confirmed at))

pub record Kept (R : (before after : Domain) → Type 0) : Type 0 where
  pub master : KeptByMaster R
  pub paired : (d : Domain) (t : VirtualLocalTime) (s : Sync) (row : ℕ) → R d (with_pair d t s row)
  pub heard : (d : Domain) (last : LastSync) → R d (with_last d last)
  pub updated : (d : Domain) (p : Pair) (f : Fup) (leap : Option Leap) → R d (updated_of d p f leap)

module _ (R : (before after : Domain) → Type 0) (k : KeptByMaster R) where
  abbrev Keeps : Node → Call → (i : ℕ) → Type 0
  Keeps n c i = R (record_at n.domains i) (record_at (node_after n c).domains i)

  -- ---- a call on one record

  module _ (d : Domain) (kept t : VirtualLocalTime) where
    set_keeps : (a : Outcome ⊤) (s ns : ℕ) → R d (set_call_as a d kept t s ns).domain
    set_keeps (Err refusal) s ns = k.same d
    set_keeps (Ok tt) s ns =
        either (λ (r : DomainStep (Outcome ⊤)). R d r.domain) (leb ns 999999999) (k.timed d _ t) (k.same d)

    followed_keeps : (f : Outcome Follow) (counter : ℕ) → R d (confirm_as f d counter).domain
    followed_keeps (Ok follow) counter = k.confirmed d follow.sent_at
    followed_keeps (Err refusal) counter = k.same d

    confirm_keeps :
        (a : Outcome ⊤) (counter length : ℕ) → R d (confirm_call_as a d kept t counter length).domain
    confirm_keeps (Err refusal) counter length = k.same d
    confirm_keeps (Ok tt) counter length =
        followed_keeps (follow_of d.settings.confirmation_time d.sending t counter (leb 8 length)) counter

  -- ---- a turn

  send_keeps : (due : Option Due) (d : Domain) (t : VirtualLocalTime) → R d (send_as due d t).domain
  send_keeps (Some due) d t = k.sent d due.seconds due.nanoseconds t
  send_keeps None d t = k.same d

  turn_keeps : (may : Bool) (d : Domain) (t : VirtualLocalTime) → R d (turn_of may d t).domain
  turn_keeps may d t = either (λ (r : DomainStep (Option Sync)). R d r.domain) may (send_keeps (due_in d t) d t) (k.same d)

  -- ---- a record stored at a place; beyond the records, nothing is

  put_keeps :
      (ds : List Domain) (i at : ℕ) (d : Domain) → R (record_at ds at) d →
      R (record_at ds i) (record_at (put ds at d) i)
  put_keeps [] i at d s = k.same _
  put_keeps (x ∷ rest) zero zero d s = s
  put_keeps (x ∷ rest) zero (suc at) d s = k.same x
  put_keeps (x ∷ rest) (suc i) zero d s = k.same _
  put_keeps (x ∷ rest) (suc i) (suc at) d s = put_keeps rest i at d s

  -- ---- a round

  goes_keeps :
      (turns at sent most : ℕ) (t : VirtualLocalTime) (ds : List Domain) (next i : ℕ) →
      R (record_at ds i) (record_at (goes turns at sent most t ds next).domains i)
  unfolding goes
  goes_keeps zero at sent most t ds next i = k.same _
  goes_keeps (suc turns) at sent most t ds next i =
      let s = turn_of (ltb sent most) (record_at ds at) t in
      k.onward _ _ _
      (put_keeps ds i at s.domain (turn_keeps (ltb sent most) (record_at ds at) t))
      (goes_keeps turns (next_place places at) (sent_after s.answer sent) most t (put ds at s.domain)
      (next_after s.answer at next) i)

  -- ---- a master's call

  pub set_call_keeps : (n : Node) (domain : ℕ) (t : VirtualLocalTime) (s ns i : ℕ) → Keeps n (set domain t s ns) i
  set_call_keeps n domain t s ns i =
      let d = record_at n.domains (domain % places) in
      put_keeps n.domains i (domain % places) _
      (set_keeps d n.kept t (admitted_of n.kept t d.number d.settings.role domain Master) s ns)

  pub cycle_call_keeps : (n : Node) (t : VirtualLocalTime) (out : List ℕ) (i : ℕ) → Keeps n (cycle t out) i
  cycle_call_keeps n t out i =
      let P : NodeStep (Outcome ℕ) → Type 0 = λ r. R (record_at n.domains i) (record_at r.node.domains i) in
      either P (is_good_reading n.kept t)
      (either P (is_room_for n (length out))
      (goes_keeps places (n.round % places) 0 n.syncs_per_cycle t n.domains n.round i) (k.same _))
      (k.same _)

  pub confirm_call_keeps :
      (n : Node) (domain : ℕ) (t : VirtualLocalTime) (counter : ℕ) (out : List ℕ) (i : ℕ) →
      Keeps n (confirm domain t counter out) i
  confirm_call_keeps n domain t counter out i =
      let d = record_at n.domains (domain % places) in
      let admission = admitted_of n.kept t d.number d.settings.role domain Master in
      put_keeps n.domains i (domain % places) _ (confirm_keeps d n.kept t admission counter (length out))

-- ---- any call

module _ (R : (before after : Domain) → Type 0) (k : Kept R) where
  module _ (d : Domain) (kept t : VirtualLocalTime) where
    abbrev still : R d d
    still = k.master.same d

    fup_keeps : (j : Outcome Pair) (f : Fup) → R d (fup_as j d f).domain
    fup_keeps (Err refusal) f = still
    fup_keeps (Ok p) f = k.updated d p f _

    sync_keeps : (c : RowCheck) (s : Sync) → R d (sync_as c d t s).domain
    sync_keeps (NotGood row) s = k.heard d _
    sync_keeps (Joins row) s = k.heard d _
    sync_keeps (Complete row) s = k.paired d t s row

    kind_keeps : (values : Frame) → R d (kind_of d t values).domain
    kind_keeps (sync s) = sync_keeps (check_for d t s) s
    kind_keeps (fup f) = fup_keeps (joined_of d.settings.follow_up_time d.pairing t f) f

    frame_keeps : (a : Outcome Frame) (bytes : List ℕ) → R d (frame_call_as a d kept t bytes).domain
    frame_keeps (Err refusal) bytes = still
    frame_keeps (Ok values) bytes =
        either (λ (r : DomainStep (Outcome Taken)). R d r.domain) (is_taken d.settings.mode d.settings.ids bytes)
        (kind_keeps values) still

  pub call_keeps : (n : Node) (c : Call) (i : ℕ) → R (record_at n.domains i) (record_at (node_after n c).domains i)
  call_keeps n (frame t bytes) i =
      let d = record_at n.domains (addressed_by bytes) in
      put_keeps R k.master n.domains i (addressed_by bytes) _
      (frame_keeps d n.kept t (frame_admitted n.kept t d.number d.settings.role bytes) bytes)
  call_keeps n (read domain t) i = k.master.same _
  call_keeps n (set domain t s ns) i = set_call_keeps R k.master n domain t s ns i
  call_keeps n (cycle t out) i = cycle_call_keeps R k.master n t out i
  call_keeps n (confirm domain t counter out) i = confirm_call_keeps R k.master n domain t counter out i

-- ---- a base once set stays set

base_kept : Kept BaseStays
base_kept =
    record {
      master =
          record {
            same = λ d h. h;
            onward = λ a b c p q h. search;
            timed = λ d g t h. tt;
            sent = λ d seconds nanoseconds t h. h;
            confirmed = λ d at h. h;
          };
      paired = λ d t s row h. h;
      heard = λ d last h. h;
      updated = λ d p f leap h. tt;
    }

pub base_stays :
    (n : Node) (c : Call) (i : ℕ) → BaseStays (record_at n.domains i) (record_at (node_after n c).domains i)
base_stays = call_keeps BaseStays base_kept

pub bases_stay :
    (n : Node) (cs : List Call) (i : ℕ) → BaseStays (record_at n.domains i) (record_at (node_after_all n cs).domains i)
bases_stay n [] i h = h
bases_stay n (c ∷ rest) i h = bases_stay (node_after n c) rest i (base_stays n c i h)

-- ---- settings

settings_kept : Kept SettingsStay
settings_kept =
    record {
      master =
          record {
            same = λ d. refl;
            onward = λ a b c p q. q ∙ p;
            timed = λ d g t. refl;
            sent = λ d seconds nanoseconds t. refl;
            confirmed = λ d at. refl;
          };
      paired = λ d t s row. refl;
      heard = λ d last. refl;
      updated = λ d p f leap. refl;
    }

pub settings_stay :
    (n : Node) (c : Call) (i : ℕ) → SettingsStay (record_at n.domains i) (record_at (node_after n c).domains i)
settings_stay = call_keeps SettingsStay settings_kept

-- ---- S

pub syncs_stay : (n : Node) (c : Call) → (node_after n c).syncs_per_cycle ≡ n.syncs_per_cycle
syncs_stay n (frame t bytes) = refl
syncs_stay n (read domain t) = refl
syncs_stay n (set domain t s ns) = refl
syncs_stay n (cycle t out) =
    let P : NodeStep (Outcome ℕ) → Type 0 = λ r. r.node.syncs_per_cycle ≡ n.syncs_per_cycle in
    either P (is_good_reading n.kept t) (either P (is_room_for n (length out)) refl refl) refl
syncs_stay n (confirm domain t counter out) = refl
