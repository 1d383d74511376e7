-- Demand 2 for a node: "What a master writes is read back as the same values". No contract cites this file.
--   sync_read_back   each frame of a round is a SYNC that a record sent, and is read as its values
--   fup_read_back    so is the FUP of a confirmation that is not refused
--   good_sync_back, good_fup_back   both for a good node
-- Assumes nothing.
use Rattle.std.specs.Prelude.{Ok, Option, Some}
use Prim.Native.Nat.{ℕ, ◌%◌, ◌<◌}
use mathlib.Core.Path.{◌≡◌, refl, ap, ◌∙◌, subst}
use mathlib.Core.List.{List}
use native.Mathlib.Omega.{arith}
use lib.ListN.{length, take, drop}
use lib.Seq.{take_at}
use Rattle.settings.specs.Node.{places}
use Rattle.frame.specs.ByteTwo.{counters}
use Rattle.clock.specs.declared.reading.VirtualLocalTime.{VirtualLocalTime}
use Rattle.clock.specs.Base.{time_at}
use Rattle.frame.specs.declared.values.Sync.{Sync}
use Rattle.frame.specs.declared.values.Fup.{Fup}
use Rattle.frame.specs.declared.values.Frame.TheVariants.{Sync as sync, Fup as fup}
use Rattle.frame_read.specs.Read.{read_of}
use Rattle.frame_write.specs.Write.{bytes_of}
use Rattle.frame_laws.specs.RoundTrip.{SyncFits, FupFits}
use Rattle.frame_write.proofs.Laws.{bytes_length}
use Rattle.frame_laws.proofs.Laws.{read_back}
use Rattle.domain.specs.declared.Domain.{Domain}
use Rattle.master_rules.proofs.Laws.{by_due}
use Rattle.master_rules.specs.Sent.{protection_of}
use Rattle.master_send.specs.Send.{send_as, send_of}
use Rattle.call_confirm.specs.ConfirmCall.{confirm_call_of}
use Rattle.domain.specs.Records.{record_at}
use Rattle.round.specs.Round.{round_of}
use Rattle.node.specs.declared.Node.{Node}
use Rattle.node.specs.Cycle.{gone_from}
use Rattle.node.specs.Confirm.{confirmed_bytes}
use Rattle.node_laws.specs.Good.{RecordGood, Good}
use Rattle.round.specs.FirstDue.{Each}
use Rattle.node_laws.specs.Back.{SyncBack}
use Rattle.node_laws.specs.Demands.{FupBack}
use Rattle.node_laws.proofs.Cycles.{round_each}
use Rattle.node_laws.proofs.Bounds.{by_followed, sent_within_lem, ovs_here}
use Rattle.master_rules.specs.declared.due.Due.{Due}
use Rattle.refusal.specs.Numbers.{Outcome}

-- ---- a SYNC

abbrev sent_by : Domain → (seconds : ℕ) → Sync
sent_by d seconds =
    record {
      domain = d.number;
      counter = d.next_counter % counters;
      user0 = d.settings.user.0;
      seconds = seconds;
      protection = protection_of d.settings.security d.settings.user.1;
    }

sent_fits :
    (d : Domain) (t : VirtualLocalTime) → d.number < places → (s : Sync) → (send_of d t).answer ≡ Some s → SyncFits s
sent_fits d t h s =
    by_due (λ (due : Option Due). (send_as due d t).answer ≡ Some s → SyncFits s) d.settings.role d.settings.period
    d.base d.sending t (λ e. let no : ◌≡◌ {A = ℕ} 0 1 = cc in absurd (omega arith))
    (λ b told e.
    let same : sent_by d (time_at b t).0 ≡ s = cc in
    subst SyncFits same (record { domain = h; counter = omega arith; seconds = omega (arith, told.seconds) }))

pub sync_read_back :
    (ds : List Domain) (first : ℕ) (t : VirtualLocalTime) (most : ℕ) →
    ((i : ℕ) → i < places → (record_at ds i).number < places) → Each (SyncBack ds t) (round_of ds first t most).frames
sync_read_back ds first t most numbers =
    round_each (SyncBack ds t) most t ds
    (λ i h s e. record {
      place = i;
      values = s;
      sent = e;
      bytes = refl;
      back = read_back (record_at ds i).settings.ids (sync s) (sent_fits (record_at ds i) t (numbers i h) s e);
    })
    first

-- ---- a FUP

call_fits :
    (i : ℕ) (kept : VirtualLocalTime) (d : Domain) → RecordGood i kept d → i < places →
    (asked : ℕ) (t : VirtualLocalTime) (counter length : ℕ) (f : Fup) →
    (confirm_call_of d kept asked t counter length).answer ≡ Ok f → FupFits f
call_fits i kept d g h asked t counter length =
    by_followed FupFits d kept t counter asked length
    (λ is le from at told. record {
      domain = rw g.number h;
      counter = (sent_within_lem i kept d g _ told.held).1;
      ovs = omega (arith, ovs_here i kept d g is t counter from at told);
      nanoseconds = omega arith;
    })

pub fup_read_back :
    (n : Node) (domain : ℕ) (t : VirtualLocalTime) (counter : ℕ) (out : List ℕ) →
    RecordGood (domain % places) n.kept (record_at n.domains (domain % places)) →
    FupBack n domain t counter out
fup_read_back n domain t counter out g f e =
    let d = record_at n.domains (domain % places) in
    let bytes = bytes_of d.settings.ids (fup f) in
    ap (λ (a : Outcome Fup). read_of (take 8 (confirmed_bytes a n domain out))) e
    ∙ ap read_of (take_at bytes (drop 8 out) 8 (bytes_length d.settings.ids (fup f)))
    ∙ read_back d.settings.ids (fup f)
    (call_fits (domain % places) n.kept d g (omega arith) domain t counter (length out) f e)

-- ---- both for a good node

module _ (n : Node) (good : Good n) where
  pub good_sync_back : (t : VirtualLocalTime) → Each (SyncBack n.domains t) (gone_from n t).frames
  good_sync_back t =
      sync_read_back n.domains n.round t n.syncs_per_cycle (λ i h. rw (good.records i h).number h)

  pub good_fup_back :
      (domain : ℕ) (t : VirtualLocalTime) (counter : ℕ) (out : List ℕ) → FupBack n domain t counter out
  good_fup_back domain t counter out =
      fup_read_back n domain t counter out (good.records (domain % places) (omega arith))
