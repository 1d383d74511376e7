-- Demand 3, its second sentence. No contract cites this file.
--   each_pair_taken   with the bus in order, each confirmed pair is taken
-- Assumes nothing.
use Rattle.std.specs.Prelude.{Ok, Some}
use Prim.Native.Nat.{ℕ, ◌+◌, ◌-◌, ◌≤◌}
use mathlib.Core.Path.{◌≡◌, refl, ap, ◌∙◌}
use mathlib.Core.List.{List, [], ◌∷◌, ◌++◌}
use native.Mathlib.Omega.{arith}
use Rattle.clock.specs.declared.reading.VirtualLocalTime.{VirtualLocalTime}
use Rattle.clock.specs.declared.time.GlobalTime.{GlobalTime}
use Rattle.clock.specs.Reading.{span_of}
use Rattle.clock.specs.Base.{base_of}
use Rattle.frame.specs.declared.values.Fup.{Fup}
use Rattle.frame.specs.declared.values.Frame.TheVariants.{Fup as fup}
use Rattle.settings.specs.declared.domain_settings.DomainSettings.{DomainSettings}
use Rattle.domain.specs.declared.Domain.{Domain}
use Rattle.domain.specs.declared.Pair.{Pair as OpenPair}
use Rattle.slave_pair.specs.Pair.{pair_of}
use Rattle.slave_pair.proofs.Laws.{Joins, joins}
use Rattle.slave_update.specs.Update.{new_base}
use Rattle.slave_update.proofs.Laws.{update_taken}
use Rattle.slave_fup.specs.Fup.{fup_as, fup_of}
use Rattle.master_follow.specs.Follow.{whole_of, ovs_of}
use Rattle.node_call.specs.Calls.{numbered}
use Rattle.history.specs.History.{Link, master_settings, slave_settings, History, slave_record, Sent}
use Rattle.history.specs.Demand.{Linked, Copy, sendings, arrivals, InRow, Taken, EachPairTaken}
use Rattle.history.proofs.Row.{sync_values, fup_values, SyncSent}
use Rattle.history.proofs.Rows.{whole_time, Pair, RowOf, fup_here, fup_read}
use Rattle.history.proofs.Since.{row_older, row_since, Fine, fine_before, Found, found}
use Rattle.history.proofs.Follows.{handed, follows}
use Rattle.history.proofs.Standing.{standing}
use Rattle.history.proofs.SlaveView.{slave_settings_lem}
use Rattle.domain.specs.declared.DomainStep.{DomainStep}
use Rattle.refusal.specs.Numbers.{Outcome, outcome_number}
use Rattle.slave_answer.specs.declared.Taken.{Taken as TakenFrame}

-- ---- a FUP that is taken
taken_as :
    (d : Domain) (p : OpenPair) (t : VirtualLocalTime) (f : Fup) →
    Joins d.settings.follow_up_time d.pairing t f p → fup_of d t f ≡ fup_as (Ok p) d f
taken_as d p t f j = ap (λ (j : Outcome OpenPair). fup_as j d f) (joins d.settings.follow_up_time d.pairing t f p j)

module _ (k : Link) (l : Linked k) (moment : ℕ) (h : History) where
  abbrev m : DomainSettings
  m = master_settings k

  abbrev i : ℕ
  i = k.domain

  -- the pair is open
  opened :
      (rest : List Sent) (f y : Copy) (older : List Copy) (here : Found k moment h f (y ∷ older)) →
      RowOf m i (sendings (y ∷ older) ++ rest) → (c : ℕ) → SyncSent m i c y.of →
      InRow k moment (slave_settings k).hysteresis y older →
      (slave_record k here.before).pairing ≡ Some (pair_of y.at (sync_values m i c y.of.time.0))
  opened rest f y older here r c sent in_row =
      (follows k l moment rest
      here.before
      (fine_before k _ here.before here.fine)
      (y ∷ older) here.next r.latest r.row).pair c sent in_row

  -- its FUP is taken
  closed :
      (f y : Copy) (older : List Copy) (here : Found k moment h f (y ∷ older)) (p : Pair m i f.of y.of) →
      (slave_record k here.before).pairing ≡ Some (pair_of y.at (sync_values m i p.counter y.of.time.0)) →
      span_of y.at f.at ≤ (slave_settings k).follow_up_time → Taken k moment h f y older
  closed f y older here p is_open in_time =
      let d = slave_record k here.before in
      let open-pair = pair_of y.at (sync_values m i p.counter y.of.time.0) in
      let v =
      fup_values m i p.counter (ovs_of y.of.time y.of.at f.of.at)
      (whole_of y.of.time y.of.at f.of.at).1 in
      let reads = fup_read m i p.counter y.of f.of l.domain p.sync.small p.fup in
      let step =
      handed k l here.before f.at
      f.of.bytes (fup v) here.fine here.heard reads in
      let limit =
      ap (λ (s : DomainSettings). s.follow_up_time) (slave_settings_lem k l here.before here.fine.calls.0) in
      let none =
      update_taken d.settings.future_threshold d.settings.past_threshold d.settings.clear_count
      d.leap d.base (new_base open-pair v) in
      let taken =
      taken_as d open-pair f.at v
      (record { held = is_open; young = omega (arith, limit, in_time); same = refl; in_range = omega arith })
      in
      record {
        after = here.after;
        before = here.before;
        call = here.call;
        next = here.next;
        number =
            step.1
            ∙ ap (λ (s : DomainStep (Outcome TakenFrame)). numbered (outcome_number s.answer)) taken
            ∙ ap numbered (omega (arith, none));
        base =
            ap (λ (d : Domain). d.base) step.0
            ∙ ap (λ (s : DomainStep (Outcome TakenFrame)). s.domain.base) taken
            ∙ ap (λ (t : GlobalTime). Some (base_of t y.at))
            (whole_time y.of.time y.of.at f.of.at p.sync.seconds);
        updates = ap (λ (d : Domain). d.updates) step.0 ∙ ap (λ (s : DomainStep (Outcome TakenFrame)). s.domain.updates) taken;
      }

pub each_pair_taken : EachPairTaken
each_pair_taken k l h calls fall range moment o newer older f y split is_a_fup in_time in_row =
    let m = master_settings k in
    let fine : Fine k h = record { calls = calls; fall = fall; range = range } in
    let here = found k moment h fine newer (y ∷ older) f (o.only ∙ ap arrivals split) in
    let r = row_since k l moment h (standing k l h calls) o newer (f ∷ y ∷ older) split in
    let before = row_older k r.rest (f ∷ []) (y ∷ older) r.row in
    let p = fup_here m k.domain r.row.latest f.of y.of _ r.row.row is_a_fup in
    closed k l moment h f y older here p
    (opened k l moment h r.rest f y older here before p.counter p.sync in_row)
    in_time
