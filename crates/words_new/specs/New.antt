-- Paper 01, "Settings of a node": a fresh node in words, of settings in words. Assumes nothing.
use Rattle.std.specs.Prelude.{ℕ, ◌+◌, ◌*◌, ◌≡◌, List, get_or}
use Rattle.settings.specs.declared.domain_settings.DomainSettings.{DomainSettings}
use Rattle.settings.specs.declared.node_settings.NodeSettings.{NodeSettings}
use Rattle.settings.specs.Node.{places}
use Rattle.node.specs.New.{new_of}
use Rattle.record_words.specs.Packed.{byte0}
use Rattle.record_words.specs.Given.{given_of}
use Rattle.node_words.specs.Words.{part_of}
use Rattle.node_words.specs.Node.{list_by, node_words}
use Rattle.refusal.specs.Numbers.{outcome_number}

-- ---- The settings that words give: S, then eleven words for each domain.
abbrev pub given_size : ℕ
given_size = 177

abbrev pub given_at : List ℕ → (at : ℕ) → DomainSettings
given_at given at = given_of (part_of (1 + 11 * at) 11 given)

abbrev pub node_given : List ℕ → NodeSettings
node_given given =
    record { syncs_per_cycle = byte0 (get_or given 0 0); domains = list_by places (given_at given) 0 }

-- ---- The promise: the number, and every word, whatever stood there before.
pub record NewIn (given : List ℕ) (r : ℕ) (after : List ℕ) : Type 0 where
  pub number : r ≡ outcome_number (new_of (node_given given)).answer
  pub words_after : after ≡ node_words (new_of (node_given given)).node
