-- Demand 3, "set so that the slave reads the master's frames". No contract cites this file.
--   each_frame_heard   each frame that the master sends in the domain is heard wherever it is handed in
-- Assumes nothing.
use Rattle.std.specs.Prelude.{Ok}
use Prim.Native.Nat.{ℕ}
use mathlib.Core.Path.{◌≡◌, refl, ap, ◌∙◌}
use mathlib.Core.Bool.{Bool, true, false, ◌&&◌}
use mathlib.Core.Logic.{⊎_elim}
use mathlib.Core.List.{List}
use borrow.Author.Tests.{eq-eqb}
use Rattle.frame.specs.declared.values.Frame.{Frame}
use Rattle.frame.specs.declared.values.Frame.TheVariants.{Sync as sync, Fup as fup}
use Rattle.frame.specs.declared.data_ids.DataIds.{DataIds}
use Rattle.frame_read.specs.Read.{read_of}
use Rattle.frame_write.specs.Write.{bytes_of}
use Rattle.frame_check.specs.declared.CheckMode.{CheckMode}
use Rattle.frame_check.specs.declared.CheckMode.TheVariants.{Validated, NotValidated, Ignored, Optional}
use Rattle.frame_check.specs.Check.{is_taken}
use Rattle.frame_laws.proofs.Laws.{good_back}
use Rattle.settings.specs.declared.domain_settings.DomainSettings.{DomainSettings}
use Rattle.settings.specs.declared.domain_settings.Security.{Security}
use Rattle.settings.specs.declared.domain_settings.Security.TheVariants.{Plain, Secured}
use Rattle.master_rules.specs.Sent.{protection_of}
use Rattle.master_follow.specs.Follow.{whole_of, ovs_of}
use Rattle.frame.specs.Values.{domain_in}
use Rattle.history.specs.History.{Link, master_settings, slave_settings, Sent, sent_in, is_read, is_heard}
use Rattle.history.specs.Demand.{Linked, ReadsAs, Reads, EachFrameHeard}
use Rattle.history.proofs.Row.{sync_values}
use Rattle.history.proofs.Standing.{standing}
use Rattle.history.proofs.Rows.{Known, PairIn, each_known, sync_read, fup_read}

-- ---- a frame that a master of this security sends, under a mode that reads it

abbrev sync_as : Security → (i c user0 user seconds : ℕ) → Frame
sync_as security i c user0 user seconds =
    sync (record { domain = i; counter = c; user0 = user0; seconds = seconds; protection = protection_of security user })

sync_good :
    (security : Security) (mode : CheckMode) (master slave : DataIds) → ReadsAs security mode master slave →
    (i c user0 user seconds : ℕ) → is_taken mode slave (bytes_of master (sync_as security i c user0 user seconds)) ≡ true
sync_good Plain mode master slave r i c user0 user seconds = r
sync_good Secured Validated master slave r i c user0 user seconds =
    let same : master ≡ slave = r in
    rw (← same) (good_back Validated master (sync_as Secured i c user0 user seconds))
sync_good Secured NotValidated master slave r i c user0 user seconds = absurd r
sync_good Secured Ignored master slave r i c user0 user seconds = refl
sync_good Secured Optional master slave r i c user0 user seconds =
    let same : master ≡ slave = cc in
    rw (← same) (good_back Optional master (sync_as Secured i c user0 user seconds))

abbrev fup_as : Security → (i c ovs user nanoseconds : ℕ) → Bool → Frame
fup_as security i c ovs user nanoseconds sgw =
    fup
    (record {
      domain = i;
      counter = c;
      sgw = sgw;
      ovs = ovs;
      nanoseconds = nanoseconds;
      protection = protection_of security user;
    })

fup_good :
    (security : Security) (mode : CheckMode) (master slave : DataIds) → ReadsAs security mode master slave →
    (i c ovs user nanoseconds : ℕ) (sgw : Bool) →
    is_taken mode slave (bytes_of master (fup_as security i c ovs user nanoseconds sgw)) ≡ true
fup_good Plain mode master slave r i c ovs user nanoseconds sgw = r
fup_good Secured Validated master slave r i c ovs user nanoseconds sgw =
    let same : master ≡ slave = r in
    rw (← same) (good_back Validated master (fup_as Secured i c ovs user nanoseconds sgw))
fup_good Secured NotValidated master slave r i c ovs user nanoseconds sgw = absurd r
fup_good Secured Ignored master slave r i c ovs user nanoseconds sgw = refl
fup_good Secured Optional master slave r i c ovs user nanoseconds sgw =
    let same : master ≡ slave = cc in
    rw (← same) (good_back Optional master (fup_as Secured i c ovs user nanoseconds sgw))

-- ---- read and good, so heard

module _ (k : Link) (linked : Linked k) (reads : Reads k) where
  abbrev m : DomainSettings
  m = master_settings k

  heard_as_sent :
      (s : Sent) (f : Frame) → domain_in f ≡ k.domain → read_of s.bytes ≡ Ok f → s.bytes ≡ bytes_of m.ids f →
      is_taken (slave_settings k).mode (slave_settings k).ids (bytes_of m.ids f) ≡ true → is_heard k s.bytes ≡ true
  heard_as_sent s f own read bytes good =
      λ j. (ap (λ r. is_read r k.domain) read ∙ eq-eqb _ _ own) j
      && (ap (is_taken (slave_settings k).mode (slave_settings k).ids) bytes ∙ good) j

  sync_heard_lem : (s : Sent) → Known m k.domain s → is_heard k s.bytes ≡ true
  sync_heard_lem s g =
      heard_as_sent s (sync (sync_values m k.domain g.counter s.time.0)) refl
      (sync_read m k.domain g.counter s linked.domain g.sent) g.sent.bytes
      (sync_good m.security (slave_settings k).mode m.ids (slave_settings k).ids reads _ _ _ _ _)

  fup_heard : (l : List Sent) (s : Sent) → PairIn m k.domain l s → is_heard k s.bytes ≡ true
  fup_heard l s g =
      heard_as_sent s _ refl
      (fup_read m k.domain g.pair.counter g.y s linked.domain g.pair.sync.small g.pair.fup)
      g.pair.fup.bytes
      (fup_good m.security (slave_settings k).mode m.ids (slave_settings k).ids reads k.domain
      g.pair.counter (ovs_of g.y.time g.y.at s.at) m.user.2
      (whole_of g.y.time g.y.at s.at).1 false)

pub each_frame_heard : EachFrameHeard
each_frame_heard k linked reads h calls s p =
    let row = standing k linked h calls in
    ⊎_elim (sync_heard_lem k linked reads s) (fup_heard k linked reads (sent_in k h) s)
    (each_known (master_settings k) k.domain row.latest (sent_in k h) row.row s p)
