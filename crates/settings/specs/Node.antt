-- Paper 01, "Settings of a node": S and the domains 0 to 15. Assumes nothing.
use Rattle.std.specs.Prelude.{ℕ, Bool, cond, ◌&&◌, List, Err, Ok, ⊤}
use Rattle.std.specs.List.{list_all}
use Rattle.refusal.specs.declared.Refusal.TheVariants.{Settings}
use Rattle.refusal.specs.Numbers.{number_of, Outcome}
use Rattle.settings.specs.declared.domain_settings.DomainSettings.{DomainSettings}
use Rattle.settings.specs.declared.node_settings.NodeSettings.{NodeSettings}
use Rattle.settings.specs.Ranges.{within, is_good}

-- ---- "Per domain 0 to 15": the number of domains
abbrev pub places : ℕ
places = 16

-- ---- each of them is good
abbrev pub all_good : List DomainSettings → Bool
all_good domains = list_all is_good domains

-- ---- "S, SYNC frames per main cycle: 1 to 16", and 14 "settings out of range"
abbrev pub judged_of : NodeSettings → Outcome ⊤
judged_of n = cond (within 1 16 n.syncs_per_cycle && all_good n.domains) (Ok tt) (Err Settings)
