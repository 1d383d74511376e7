-- The steps of a fresh node in words: whether the settings are taken, and the node that is made. Assumes nothing.
use Rattle.std.specs.Prelude.{ℕ, Bool, cond, ◌&&◌, List}
use Rattle.settings.specs.declared.domain_settings.DomainSettings.{DomainSettings}
use Rattle.settings.specs.Domain.{absent_held}
use Rattle.settings.specs.Ranges.{within}
use Rattle.settings.specs.Node.{places, all_good}
use Rattle.node.specs.declared.Node.{Node}
use Rattle.node.specs.New.{fresh_node}
use Rattle.node_words.specs.Node.{list_by}
use Rattle.words_new.specs.New.{given_at, node_given}

-- ---- Whether S and each domain are in range.
abbrev pub is_taken : List ℕ → Bool
is_taken given = within 1 16 (node_given given).syncs_per_cycle && all_good (node_given given).domains

-- ---- The node that is made: of the settings where they are taken; else with S 1, and all domains absent.
abbrev pub made_syncs : (taken : Bool) → List ℕ → ℕ
made_syncs taken given = cond taken (node_given given).syncs_per_cycle 1

abbrev pub made_at : (taken : Bool) → List ℕ → (at : ℕ) → DomainSettings
made_at taken given at = cond taken (given_at given at) absent_held

abbrev pub made_node : (taken : Bool) → List ℕ → Node
made_node taken given = fresh_node (made_syncs taken given) (list_by places (made_at taken given) 0)
