-- A slave that hears each frame, once and in order, since a moment. No contract cites this file.
--   Follows   its last SYNC is the newest, or from before the moment; a SYNC that H others came before, each at most L
--             before the next and the first L or more after the moment, is its open pair until the next frame
--   follows   so it is after each history
-- Assumes nothing.
use Rattle.std.specs.Prelude.{Err, Ok, Option, Some}
use Prim.Native.Nat.{ℕ, zero, suc, ◌+◌, ◌≤◌, ◌<◌}
use mathlib.Core.Path.{◌≡◌, refl, sym, ap, subst}
use mathlib.Core.Bool.{Bool, true, false, cond}
use mathlib.Core.Logic.{◌⊎◌, inl, inr}
use mathlib.Core.List.{List, [], ◌∷◌, ◌++◌}
use native.Mathlib.Omega.{arith}
use borrow.Author.Tests.{ltb-false, le-ltb, le-leb}
use Rattle.clock.specs.declared.reading.VirtualLocalTime.{VirtualLocalTime}
use Rattle.clock.specs.Reading.{span_of}
use Rattle.frame.specs.declared.values.Sync.{Sync}
use Rattle.frame.specs.declared.values.Fup.{Fup}
use Rattle.frame.specs.declared.values.Frame.{Frame}
use Rattle.frame.specs.declared.values.Frame.TheVariants.{Sync as sync, Fup as fup}
use Rattle.frame_read.specs.Read.{read_of}
use Rattle.settings.specs.declared.domain_settings.DomainSettings.{DomainSettings}
use Rattle.settings.specs.Domain.{slave_held}
use Rattle.domain.specs.declared.Domain.{Domain}
use Rattle.domain.specs.declared.LastSync.{LastSync}
use Rattle.domain.specs.declared.LastSync.TheVariants.{Unknown, Seen}
use Rattle.slave_counter.specs.declared.CounterVerdict.{CounterVerdict}
use Rattle.slave_counter.specs.declared.CounterVerdict.TheVariants.{Free, Good, NotGood}
use Rattle.slave_counter.specs.declared.RowCheck.{RowCheck}
use Rattle.slave_counter.specs.declared.RowCheck.TheVariants.{NotGood as not_good, Joins, Complete}
use Rattle.slave_counter.specs.Counter.{jump_of, verdict_of}
use Rattle.slave_counter.specs.Row.{row_of, with_row, row_refused}
use Rattle.slave_counter.proofs.Laws.{Checked, not_joined as refuses, begins, alone, joins, completes, checked}
use Rattle.slave_pair.specs.Pair.{pair_of}
use Rattle.slave_pair.specs.Join.{joined_of}
use Rattle.slave_sync.specs.Sync.{verdict_for, check_for, sync_as, sync_of}
use Rattle.slave_fup.specs.Fup.{fup_as, fup_of}
use Rattle.slave_frame.specs.Step.{kind_of}
use Rattle.node_call.specs.Calls.{frame, numbered, answer_to}
use Rattle.history.specs.History.{
  Link,
  master_settings,
  slave_settings,
  on_slave,
  Event,
  at_master,
  at_slave,
  History,
  slave_after,
  slave_record,
  Sent,
  is_heard,
  heard_in,
  is_sync,
}
use Rattle.history.specs.Demand.{Linked, AreCalls, heard_since, Copy, sendings, arrivals, InRow}
use Rattle.history.proofs.Row.{
  sync_values,
  SyncSent,
  FupSent,
  Newest,
  no_sync,
  newest,
  After,
  Row,
  then_sync,
  then_fup,
}
use Rattle.history.proofs.Begun.{fresh_record}
use Rattle.history.proofs.SlaveView.{slave_settings_lem, heard_as, unheard_keeps, kept_before, heard_in_time}
use Rattle.history.proofs.Rows.{sync_bytes, fup_bytes, fup_no_sync, one_counter, sync_read, fup_read}
use Rattle.history.proofs.Ranges.{slave_in_range}
use Rattle.history.proofs.Since.{
  Fine,
  fine_before,
  Quiet,
  Passes,
  quiet,
  early,
  Adds,
  passes,
  arrives,
  adds,
  none_since,
  nothing,
}
use Rattle.domain.specs.declared.Pair.{Pair}
use Rattle.refusal.specs.Numbers.{Outcome, outcome_number}

-- ---- the SYNC last accepted, with s the newest of those sent up to the frame heard last
abbrev Counts : Newest → (c : ℕ) → Type 0
Counts no_sync c = ⊥
Counts (newest c₀ y) c = c₀ ≡ c

abbrev pub LastOk : Link → (moment : ℕ) → LastSync → Newest → Type 0
LastOk k moment Unknown s = Unit {0}
LastOk k moment (Seen c row at) s = (on_slave k at < moment) ⊎ Counts s c

-- ---- the row: that of the newest SYNC heard since the moment is at least the number of those it is in a row with
abbrev RowFrom : Link → (moment : ℕ) → LastSync → (at : VirtualLocalTime) (least : ℕ) → Type 0
RowFrom k moment Unknown at least = ⊥
RowFrom k moment (Seen c row last) at least = (last ≡ at) × (moment ≤ on_slave k at) × (least ≤ row)

abbrev pub RowOk : Link → (moment : ℕ) → LastSync → List Copy → Type 0
RowOk k moment last [] = Unit {0}
RowOk k moment last (q ∷ older) =
    cond (is_sync q.of)
    ((h : ℕ) → h ≤ (slave_settings k).hysteresis → InRow k moment h q older → RowFrom k moment last q.at h)
    (RowOk k moment last older)

-- ---- the pair, with the frames heard since the moment
abbrev pub PairOk : Link → (moment : ℕ) → Option Pair → List Copy → Type 0
PairOk k moment p [] = Unit {0}
PairOk k moment p (q ∷ older) =
    (c : ℕ) → SyncSent (master_settings k) k.domain c q.of →
    InRow k moment (slave_settings k).hysteresis q older →
    p ≡ Some (pair_of q.at (sync_values (master_settings k) k.domain c q.of.time.0))

pub record Follows (k : Link) (moment : ℕ) (d : Domain) (s : Newest) (copies : List Copy) : Type 0 where
  pub last : LastOk k moment d.last s
  pub row : RowOk k moment d.last copies
  pub pair : PairOk k moment d.pairing copies

-- ---- the SYNC after the last is good, or any is
next_good :
    (m : DomainSettings) (s : Newest) (y : Sent) (j loss c₀ row c : ℕ) (at t : VirtualLocalTime) → 1 ≤ j → Counts s c₀ →
    After m s c y → span_of at t ≤ loss → verdict_of j loss (Seen c₀ row at) c t ≡ Good
next_good m no_sync y j loss c₀ row c at t h e a near = absurd e
next_good m (newest c₁ y₁) y j loss c₀ row c at t h e a near =
    let one : jump_of c₀ c ≡ 1 = omega (arith, a.0, e) in
    rw (le-ltb loss (span_of at t) near, le-leb 1 (jump_of c₀ c) (omega arith), le-leb (jump_of c₀ c) j (omega arith)) refl

not_free : (b : Bool) (v : CounterVerdict) → cond b Free v ≡ NotGood → b ≡ false
not_free true v e = let no : ◌≡◌ {A = ℕ} 0 1 = cc in absurd (omega arith)
not_free false v e = refl

module _ (k : Link) (moment : ℕ) where
  abbrev m : DomainSettings
  m = master_settings k

  -- a SYNC's counter is not good only if the last is from before the moment, and L has not passed since
  refused :
      (last : LastSync) (s : Newest) (y : Sent) (j loss c : ℕ) (t : VirtualLocalTime) → 1 ≤ j →
      LastOk k moment last s → After m s c y → verdict_of j loss last c t ≡ NotGood →
      ((row : ℕ) (s' : Newest) → LastOk k moment (with_row last row) s') × (on_slave k t < moment + loss)
      × ((at : VirtualLocalTime) (least : ℕ) → RowFrom k moment last at least → ⊥)
  refused Unknown s y j loss c t h ok a e = let no : ◌≡◌ {A = ℕ} 0 1 = cc in absurd (omega arith)
  refused (Seen c₀ row at) s y j loss c t h (inl old) a e =
      let soon = ltb-false loss (span_of at t) (not_free _ _ e) in (
        λ row s'. inl old,
        omega (arith, soon, old),
        λ from least is. omega (arith, old, ap (λ (r : VirtualLocalTime). r.0) is.0, is.1),
      )
  refused (Seen c₀ row at) s y j loss c t h (inr counts) a e =
      let soon = ltb-false loss (span_of at t) (not_free _ _ e) in
      let good = next_good m s y j loss c₀ row c at t h counts a soon in
      let no : ◌≡◌ {A = ℕ} 0 1 = cc in absurd (omega arith)

  -- a SYNC that h others came before finds the row of the one before it
  record GoesOn (last : LastSync) (t : VirtualLocalTime) (h : ℕ) : Type 0 where
    at : VirtualLocalTime
    from : RowFrom k moment last at h
    near : span_of at t ≤ (slave_settings k).loss_time

  goes_on :
      (last : LastSync) (q : Copy) (h : ℕ) (older : List Copy) → suc h ≤ (slave_settings k).hysteresis →
      RowOk k moment last older → InRow k moment (suc h) q older → GoesOn last q.at h
  goes_on last q h [] le ok in_row = absurd in_row
  goes_on last q h (z ∷ older) le ok in_row = by (is_sync z.of) ok in_row (goes_on last q h older le)
    where
      by :
          (b : Bool) →
          cond b
          ((h : ℕ) → h ≤ (slave_settings k).hysteresis → InRow k moment h z older → RowFrom k moment last z.at h)
          (RowOk k moment last older) →
          cond b
          ((span_of z.at q.at ≤ (slave_settings k).loss_time) × InRow k moment h z older)
          (InRow k moment (suc h) q older) →
          (RowOk k moment last older → InRow k moment (suc h) q older → GoesOn last q.at h) → GoesOn last q.at h
      by true row (near, before) further = record { at = z.at; from = row h (omega (arith, le)) before; near = near }
      by false row before further = further row before

  -- so its counter is good, and the row one more; or any is good, and it is the first
  abbrev Counted : LastSync → CounterVerdict → (h : ℕ) → Type 0
  Counted last v h = ((v ≡ Free) × (h ≡ 0)) ⊎ ((v ≡ Good) × (h ≤ row_of last + 1))

  never : (last : LastSync) (h : ℕ) → Counted last NotGood h → ⊥
  never last h (inl (e, z)) = let no : ◌≡◌ {A = ℕ} 0 1 = cc in absurd (omega arith)
  never last h (inr (e, le)) = let no : ◌≡◌ {A = ℕ} 0 1 = cc in absurd (omega arith)

  first : (last : LastSync) (h : ℕ) → Counted last Free h → h ≡ 0
  first last h (inl (e, z)) = z
  first last h (inr (e, le)) = let no : ◌≡◌ {A = ℕ} 0 1 = cc in absurd (omega arith)

  next : (last : LastSync) (h : ℕ) → Counted last Good h → h ≤ row_of last + 1
  next last h (inl (e, z)) = let no : ◌≡◌ {A = ℕ} 0 1 = cc in absurd (omega arith)
  next last h (inr (e, le)) = le

  from_row : (last : LastSync) (at : VirtualLocalTime) (least : ℕ) → RowFrom k moment last at least → least ≤ row_of last
  from_row Unknown at least is = absurd is
  from_row (Seen c row last) at least is = is.2

  near_good :
      (last : LastSync) (s : Newest) (y : Sent) (j loss c h : ℕ) (t : VirtualLocalTime) → 1 ≤ j →
      loss ≡ (slave_settings k).loss_time → LastOk k moment last s → After m s c y → GoesOn last t h →
      verdict_of j loss last c t ≡ Good
  near_good Unknown s y j loss c h t le e ok a on = absurd on.from
  near_good (Seen c₀ row at) s y j loss c h t le e (inl old) a on =
      absurd (omega (arith, old, ap (λ (r : VirtualLocalTime). r.0) on.from.0, on.from.1))
  near_good (Seen c₀ row at) s y j loss c h t le e (inr counts) a on =
      let near : span_of at t ≤ loss = omega (arith, e, on.near, ap (λ (r : VirtualLocalTime). r.0) on.from.0) in
      next_good m s y j loss c₀ row c at t le counts a near

  module _ (d : Domain) (s : Newest) (c : ℕ) (q : Copy) (older : List Copy)
      (held : d.settings ≡ slave_held (slave_settings k)) (j : 1 ≤ d.settings.jump_width)
      (last : LastOk k moment d.last s) (row : RowOk k moment d.last older) (after : After m s c q.of) where
    abbrev values : Sync
    values = sync_values m k.domain c q.of.time.0

    lost : d.settings.loss_time ≡ (slave_settings k).loss_time
    lost = ap (λ (x : DomainSettings). x.loss_time) held

    counted :
        (v : CounterVerdict) → verdict_for d q.at values ≡ v → (h : ℕ) → h ≤ (slave_settings k).hysteresis →
        InRow k moment h q older → Counted d.last v h
    counted NotGood e zero le late =
        let r = refused d.last s q.of _ _ c q.at j last after e in absurd (omega (arith, r.1, lost, late))
    counted NotGood e (suc h) le in_row =
        let r = refused d.last s q.of _ _ c q.at j last after e in
        let on = goes_on d.last q h older le row in_row in absurd (r.2 on.at h on.from)
    counted Free e zero le late = inl (refl, refl)
    counted Free e (suc h) le in_row =
        let on = goes_on d.last q h older le row in_row in
        let good = near_good d.last s q.of _ _ c h q.at j lost last after on in
        let no : ◌≡◌ {A = ℕ} 0 1 = cc in absurd (omega arith)
    counted Good e zero le late = inr (refl, omega arith)
    counted Good e (suc h) le in_row =
        let on = goes_on d.last q h older le row in_row in
        inr (refl, omega (arith, from_row d.last on.at h on.from))

    -- the three ways of the check
    abbrev Done : RowCheck → Type 0
    Done check = Follows k moment (sync_as check d q.at values).domain (newest c q.of) (q ∷ older)

    module _ (sent : SyncSent m k.domain c q.of) (late : moment ≤ on_slave k q.at) where
      rowed :
          (last : LastSync) →
          ((h : ℕ) → h ≤ (slave_settings k).hysteresis → InRow k moment h q older → RowFrom k moment last q.at h) →
          RowOk k moment last (q ∷ older)
      rowed last f =
          subst
          (λ (b : Bool).
          cond b
          ((h : ℕ) → h ≤ (slave_settings k).hysteresis → InRow k moment h q older → RowFrom k moment last q.at h)
          (RowOk k moment last older))
          (sym (sync_bytes m k.domain c q.of sent).is) f

      abbrev full : ℕ
      full = (slave_settings k).hysteresis

      most : d.settings.hysteresis ≡ full
      most = ap (λ (x : DomainSettings). x.hysteresis) held

      opens : Done (Complete d.settings.hysteresis)
      opens =
          record {
            last = inr refl;
            row =
                rowed (Seen c d.settings.hysteresis q.at)
                (λ h le in_row. (refl, late, omega (arith, le, most)));
            pair = λ c' sent' in_row. rw (one_counter m k.domain c' c q.of sent' sent) refl;
          }

      checked_follows :
          (v : CounterVerdict) (check : RowCheck) → verdict_for d q.at values ≡ v →
          Checked d.settings.hysteresis (row_of d.last) v check → Done check
      checked_follows v check e refuses =
          let r = refused d.last s q.of _ _ c q.at j last after e in
          record {
            last = r.0 _ (newest c q.of);
            row =
                rowed (with_row d.last (row_refused d.settings.hysteresis (row_of d.last)))
                (λ h le in_row. absurd (never d.last h (counted NotGood e h le in_row)));
            pair = λ c' sent' in_row. absurd (never d.last full (counted NotGood e full (omega arith) in_row));
          }
      checked_follows v check e (begins lt) =
          record {
            last = inr refl;
            row =
                rowed (Seen c 0 q.at)
                (λ h le in_row. (refl, late, omega (arith, first d.last h (counted Free e h le in_row))));
            pair =
                λ c' sent' in_row.
                absurd (omega (arith, lt, most, first d.last full (counted Free e full (omega arith) in_row)));
          }
      checked_follows v check e (alone le) = opens
      checked_follows v check e (joins lt) =
          record {
            last = inr refl;
            row =
                rowed (Seen c (row_of d.last + 1) q.at)
                (λ h le in_row. (refl, late, next d.last h (counted Good e h le in_row)));
            pair =
                λ c' sent' in_row.
                absurd (omega (arith, lt, most, next d.last full (counted Good e full (omega arith) in_row)));
          }
      checked_follows v check e (completes le) = opens

      sync_follows : Follows k moment (sync_of d q.at values).domain (newest c q.of) (q ∷ older)
      sync_follows = checked_follows _ _ refl (checked _ _ (verdict_for d q.at values))

  fup_as_lem :
      (j : Outcome Pair) (d : Domain) (f : Fup) → (fup_as j d f).domain.last ≡ d.last
  fup_as_lem (Err r) d f = refl
  fup_as_lem (Ok p) d f = refl

  fup_last : (d : Domain) (t : VirtualLocalTime) (f : Fup) → (fup_of d t f).domain.last ≡ d.last
  fup_last d t f = fup_as_lem (joined_of d.settings.follow_up_time d.pairing t f) d f

  fup_follows :
      (d : Domain) (c : ℕ) (y : Sent) (q : Copy) (older : List Copy) (f : Fup) →
      LastOk k moment d.last (newest c y) → RowOk k moment d.last older →
      FupSent m k.domain c y q.of → Follows k moment (fup_of d q.at f).domain (newest c y) (q ∷ older)
  fup_follows d c y q older f ok row sent =
      let no_sync = (fup_bytes m k.domain c y q.of sent).is_not in
      record {
        last = subst (λ (l : LastSync). LastOk k moment l (newest c y)) (sym (fup_last d q.at f)) ok;
        row =
            subst (λ (l : LastSync). RowOk k moment l (q ∷ older)) (sym (fup_last d q.at f)) (rw no_sync row);
        pair = λ c' sent'. fup_no_sync m k.domain c c' y q.of sent sent';
      }

  with_row_lem :
      (last : LastSync) (row : ℕ) (s : Newest) → LastOk k moment last s → LastOk k moment (with_row last row) s
  with_row_lem Unknown row s ok = tt
  with_row_lem (Seen c old at) row s ok = ok

  sync_last :
      (check : RowCheck) (d : Domain) (t : VirtualLocalTime) (v : Sync) (s : Newest) → on_slave k t < moment →
      LastOk k moment d.last s → LastOk k moment (sync_as check d t v).domain.last s
  sync_last (not_good row) d t v s lt ok = with_row_lem d.last row s ok
  sync_last (Joins row) d t v s lt ok = inl lt
  sync_last (Complete row) d t v s lt ok = inl lt

  early_follows :
      (d : Domain) (s : Newest) (t : VirtualLocalTime) (values : Frame) → on_slave k t < moment →
      LastOk k moment d.last s → Follows k moment (kind_of d t values).domain s []
  early_follows d s t (sync v) lt ok =
      record { last = sync_last (check_for d t v) d t v s lt ok; row = tt; pair = tt }
  early_follows d s t (fup f) lt ok =
      record {
        last = subst (λ (l : LastSync). LastOk k moment l s) (sym (fup_last d t f)) ok;
        row = tt;
        pair = tt;
      }

module _ (k : Link) (l : Linked k) where
  quiet_record :
      (x : Event) (h : History) → Fine k (x ∷ h) → Quiet k x → slave_record k (x ∷ h) ≡ slave_record k h
  quiet_record (at_master c) h g q = refl
  quiet_record (at_slave c) h g q = unheard_keeps k l h g.calls.0 c q

  -- a call that hands in a frame of the domain
  pub handed :
      (h : History) (t : VirtualLocalTime) (bytes : List ℕ) (values : Frame) →
      Fine k (at_slave (frame t bytes) ∷ h) →
      is_heard k bytes ≡ true → read_of bytes ≡ Ok values →
      (slave_record k (at_slave (frame t bytes) ∷ h) ≡ (kind_of (slave_record k h) t values).domain)
      × (answer_to (slave_after k h) (frame t bytes)
      ≡ numbered (outcome_number (kind_of (slave_record k h) t values).answer))
  handed h t bytes values g heard reads =
      heard_in_time k l h g.calls.0 t bytes values heard reads g.range.1
      (kept_before k l h g.calls.0 g.fall.0 t g.fall.1)

  jump_at : (h : History) → AreCalls h → 1 ≤ (slave_record k h).settings.jump_width
  jump_at h calls =
      subst (λ (s : DomainSettings). 1 ≤ s.jump_width) (sym (slave_settings_lem k l h calls))
      (slave_in_range k l).jump.0

  module _ (moment : ℕ) (rest : List Sent) where
    abbrev Claim : History → Type 0
    Claim h =
        (copies : List Copy) → heard_since k moment (heard_in k h) ≡ arrivals copies →
        (s : Newest) → Row (master_settings k) k.domain s (sendings copies ++ rest) →
        Follows k moment (slave_record k h) s copies

    passes_follows :
        (x : Event) (h : History) → Passes k moment x → Fine k (x ∷ h) → (copies : List Copy) →
        heard_since k moment (heard_in k h) ≡ arrivals copies → (s : Newest) →
        Follows k moment (slave_record k h) s copies → Follows k moment (slave_record k (x ∷ h)) s copies
    passes_follows x h (quiet y q) g copies e s before =
        subst (λ (d : Domain). Follows k moment d s copies) (sym (quiet_record x h g q)) before
    passes_follows x h (early t bytes heard lt) g copies e s before =
        let v = heard_as k bytes heard in
        let empty = none_since k moment h copies g.fall.0 (omega (arith, g.fall.1, lt)) e in
        subst (λ (d : Domain). Follows k moment d s copies)
        (sym (handed h t bytes v.values g heard v.reads).0)
        (subst (Follows k moment (kind_of (slave_record k h) t v.values).domain s) (sym empty)
        (early_follows k moment (slave_record k h) s t v.values lt before.last))

    adds_follows :
        (x : Event) (h : History) (copies : List Copy) → Adds k moment h x copies → Fine k (x ∷ h) →
        (s : Newest) → Row (master_settings k) k.domain s (sendings copies ++ rest) → Claim h →
        Follows k moment (slave_record k (x ∷ h)) s copies
    adds_follows x h copies (passes y all p e) g s r before =
        passes_follows x h p g copies e s (before copies e s r)
    adds_follows x h copies (arrives q older heard late e) g s (then_sync s' l' r c y a sent) before =
        let v = sync_values (master_settings k) k.domain c q.of.time.0 in
        let reads = sync_read (master_settings k) k.domain c q.of l.domain sent in
        let known = before older e s' r in
        subst (λ (d : Domain). Follows k moment d (newest c q.of) (q ∷ older))
        (sym (handed h q.at q.of.bytes (sync v) g heard reads).0)
        (sync_follows k moment (slave_record k h) s' c q older (slave_settings_lem k l h g.calls.0)
        (jump_at h g.calls.0) known.last known.row a sent late)
    adds_follows x h copies (arrives q older heard late e) g s (then_fup c y l' older' r head sent f fs) before =
        let reads = fup_read (master_settings k) k.domain c y q.of l.domain sent.small fs in
        let known = before older e (newest c y) r in
        subst (λ (d : Domain). Follows k moment d (newest c y) (q ∷ older))
        (sym (handed h q.at q.of.bytes _ g heard reads).0)
        (fup_follows k moment (slave_record k h) c y q older _ known.last known.row fs)

    pub follows : (h : History) → Fine k h → Claim h
    follows [] g copies e s r =
        let unknown =
        subst (λ (d : Domain). LastOk k moment d.last s)
        (sym (fresh_record k.slave k.domain l.slaves l.good_slave l.domain)) tt in
        subst (Follows k moment (slave_record k []) s) (sym (nothing copies e))
        (record { last = unknown; row = tt; pair = tt })
    follows (x ∷ h) g copies e s r =
        adds_follows x h copies (adds k moment x h copies e) g s r (follows h (fine_before k x h g))
