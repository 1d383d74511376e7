-- Laws of the ranges. No contract cites this file.
--   held_good         what is held of good settings is good
--   leaps_range       what good thresholds and a good count are
--   slave_range       what good settings of a slave are, rule by rule
--   master_range      what good settings of a master are, rule by rule
-- Assumes nothing.
use Prim.Native.Nat.{◌≤◌, ◌<◌}
use mathlib.Core.Path.{◌≡◌, refl}
use mathlib.Core.Bool.{true}
use borrow.Author.Tests.{leb-true, ltb-true}
use Rattle.promise.proofs.Tests.{both}
use Rattle.settings.specs.declared.domain_settings.DomainSettings.{DomainSettings}
use Rattle.settings.specs.declared.domain_settings.Role.{Role}
use Rattle.settings.specs.declared.domain_settings.Role.TheVariants.{Absent, Slave, Master}
use Rattle.settings.specs.Domain.{held_as, held_of}
use Rattle.settings.specs.Ranges.{is_good, leaps_good, slave_good, master_good, is_good_as}

good_as : (r : Role) (s : DomainSettings) → is_good (held_as r s) ≡ is_good_as r s
good_as Absent s = refl
good_as Slave s = refl
good_as Master s = refl

pub held_good : (s : DomainSettings) → is_good (held_of s) ≡ is_good s
held_good s = good_as s.role s

-- ---- what the conjunctions say

pub record LeapsRange (s : DomainSettings) : Type 0 where
  pub future : s.future_threshold ≤ 1000000000000
  pub past : s.past_threshold ≤ 1000000000000
  pub count : (1 ≤ s.clear_count) × (s.clear_count ≤ 255)

pub record SlaveRange (s : DomainSettings) : Type 0 where
  pub jump : (1 ≤ s.jump_width) × (s.jump_width ≤ 15)
  pub hysteresis : s.hysteresis ≤ 15
  pub follow : (1 ≤ s.follow_up_time) × (s.follow_up_time ≤ 10000000000)
  pub loss : (s.follow_up_time < s.loss_time) × (s.loss_time ≤ 1000000000000)
  pub leaps : LeapsRange s

pub record MasterRange (s : DomainSettings) : Type 0 where
  pub period : (1000000 ≤ s.period) × (s.period ≤ 1000000000000)
  pub confirmation : (1 ≤ s.confirmation_time) × (s.confirmation_time ≤ 3000000000)
  pub below : s.confirmation_time < s.period

pub leaps_range : (s : DomainSettings) → leaps_good s ≡ true → LeapsRange s
leaps_range s e =
    let p₂ = both _ _ e in
    let p = both _ _ p₂.0 in
    let c = both _ _ p₂.1 in
    record {
      future = leb-true _ _ p.0;
      past = leb-true _ _ p.1;
      count = (leb-true _ _ c.0, leb-true _ _ c.1);
    }

pub slave_range : (s : DomainSettings) → slave_good s ≡ true → SlaveRange s
slave_range s e =
    let p₆ = both _ _ e in
    let p₅ = both _ _ p₆.0 in
    let p₄ = both _ _ p₅.0 in
    let p₃ = both _ _ p₄.0 in
    let p₂ = both _ _ p₃.0 in
    let j = both _ _ p₂.0 in
    let f = both _ _ p₃.1 in
    record {
      jump = (leb-true _ _ j.0, leb-true _ _ j.1);
      hysteresis = leb-true _ _ p₂.1;
      follow = (leb-true _ _ f.0, leb-true _ _ f.1);
      loss = (ltb-true _ _ p₄.1, leb-true _ _ p₅.1);
      leaps = leaps_range s p₆.1;
    }

pub master_range : (s : DomainSettings) → master_good s ≡ true → MasterRange s
master_range s e =
    let p₃ = both _ _ e in
    let p₂ = both _ _ p₃.0 in
    let p = both _ _ p₂.0 in
    let c = both _ _ p₂.1 in
    record {
      period = (leb-true _ _ p.0, leb-true _ _ p.1);
      confirmation = (leb-true _ _ c.0, leb-true _ _ c.1);
      below = ltb-true _ _ p₃.1;
    }
