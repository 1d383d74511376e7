-- The settings of linked nodes are in range. No contract cites this file.
--   slave_in_range, master_in_range   of the link's domain, in the slave and in the master
-- Assumes nothing.
use Rattle.std.specs.Prelude.{Err, Ok, ⊤}
use Prim.Native.Nat.{ℕ, zero, suc}
use mathlib.Core.Path.{◌≡◌, refl, subst}
use mathlib.Core.Bool.{Bool, true, false, cond}
use mathlib.Core.List.{List, [], ◌∷◌}
use native.Mathlib.Omega.{arith}
use lib.ListN.{get_or}
use Rattle.promise.proofs.Tests.{both}
use Rattle.refusal.specs.declared.Refusal.TheVariants.{Settings}
use Rattle.refusal.specs.Numbers.{Outcome}
use Rattle.settings.specs.declared.domain_settings.DomainSettings.{DomainSettings}
use Rattle.settings.specs.declared.domain_settings.Role.{Role}
use Rattle.settings.specs.Domain.{absent_held}
use Rattle.settings.specs.Ranges.{within, is_good_as, is_good}
use Rattle.settings.proofs.ranges.Laws.{SlaveRange, MasterRange, slave_range, master_range}
use Rattle.settings.specs.declared.node_settings.NodeSettings.{NodeSettings}
use Rattle.settings.specs.Node.{all_good, judged_of}
use Rattle.history.specs.History.{Link, master_settings, slave_settings}
use Rattle.history.specs.Demand.{Linked}

all_good_lem : (l : List DomainSettings) → all_good l ≡ true → (i : ℕ) → is_good (get_or l i absent_held) ≡ true
all_good_lem [] e i = refl
all_good_lem (s ∷ rest) e zero = (both (is_good s) (all_good rest) e).0
all_good_lem (s ∷ rest) e (suc i) = all_good_lem rest (both (is_good s) (all_good rest) e).1 i

judged_good : (b : Bool) → ◌≡◌ {A = Outcome ⊤} (cond b (Ok tt) (Err Settings)) (Ok tt) → b ≡ true
judged_good true e = refl
judged_good false e = let no : ◌≡◌ {A = ℕ} 0 1 = cc in absurd (omega arith)

settings_good : (n : NodeSettings) → judged_of n ≡ Ok tt → (i : ℕ) → is_good (get_or n.domains i absent_held) ≡ true
settings_good n e i =
    all_good_lem n.domains (both (within 1 16 n.syncs_per_cycle) (all_good n.domains) (judged_good _ e)).1 i

module _ (k : Link) (l : Linked k) where
  pub slave_in_range : SlaveRange (slave_settings k)
  slave_in_range =
      slave_range (slave_settings k)
      (subst (λ (r : Role). is_good_as r (slave_settings k) ≡ true) l.slave
      (settings_good k.slave l.good_slave k.domain))

  pub master_in_range : MasterRange (master_settings k)
  master_in_range =
      master_range (master_settings k)
      (subst (λ (r : Role). is_good_as r (master_settings k) ≡ true) l.master
      (settings_good k.master l.good_master k.domain))
