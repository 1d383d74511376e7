-- Paper 01, "Bench program": its settings. Assumes nothing.
use Rattle.std.specs.Prelude.{ℕ, ◌∷◌, replicate}
use Rattle.frame_check.specs.declared.CheckMode.TheVariants.{NotValidated}
use Rattle.settings.specs.declared.domain_settings.DomainSettings.{DomainSettings}
use Rattle.settings.specs.declared.domain_settings.Security.TheVariants.{Plain}
use Rattle.settings.specs.declared.node_settings.NodeSettings.{NodeSettings}
use Rattle.settings.specs.Domain.{absent_held, as_slave, as_master}

-- ---- "domain 1 slave, not validated, J 2, F 100 ms, L 2 s, both thresholds 500 ms", with any J; a count of 1, paper
-- 01's leap rule
abbrev pub slave_with : (j : ℕ) → DomainSettings
slave_with j = as_slave j 0 100000000 2000000000 500000000 500000000 1 NotValidated absent_held.ids

-- ---- "domain 2 master, plain, P 1 s, C 200 ms, user bytes 0"
abbrev pub bench_master : DomainSettings
bench_master = as_master 1000000000 200000000 Plain (record { 0 = 0; 1 = 0; 2 = 0 }) absent_held.ids

-- ---- "S = 1", "others absent": the bench's settings with any J
abbrev pub bench_with : (j : ℕ) → NodeSettings
bench_with j =
    record {
      syncs_per_cycle = 1;
      domains = absent_held ∷ slave_with j ∷ bench_master ∷ replicate 13 absent_held;
    }
