-- A node and its words. Assumes nothing.
use Rattle.std.specs.Prelude.{ℕ, zero, suc, ◌<◌, ◌≡◌, List, [], ◌∷◌, ◌++◌, length, get_or}
use Rattle.domain.specs.declared.Domain.{Domain}
use Rattle.domain.specs.Records.{record_at}
use Rattle.settings.specs.Node.{places}
use Rattle.node.specs.declared.Node.{Node}
use Rattle.record_words.specs.Packed.{byte4, byte5, packed_of}
use Rattle.record_words.specs.Record.{settings_words, state_words}
use Rattle.record_words.specs.Fits.{SettingsFit, StateFits}
use Rattle.node_words.specs.Words.{kept_of, record_of}

-- ---- k values of a function, from a place on.
abbrev pub list_by : {A : Type 0} → (k : ℕ) → (ℕ → A) → (at : ℕ) → List A
list_by zero f at = []
list_by (suc k) f at = f at ∷ list_by k f (suc at)

-- ---- The node that words say: any words say one.
abbrev pub syncs_of : List ℕ → ℕ
syncs_of words = byte4 (get_or words 1 0)

abbrev pub round_of : List ℕ → ℕ
round_of words = byte5 (get_or words 1 0)

abbrev pub node_of : List ℕ → Node
node_of words =
    record {
      domains = list_by places (record_of words) 0;
      kept = kept_of words;
      syncs_per_cycle = syncs_of words;
      round = round_of words;
    }

-- ---- The words of a node.
abbrev pub head_word : (syncs round : ℕ) → ℕ
head_word syncs round = packed_of 0 syncs round 0 0

abbrev pub record_words : Domain → List ℕ
record_words d = settings_words d.settings d.number ++ state_words d

abbrev pub records_words : List Domain → List ℕ
records_words [] = []
records_words (d ∷ rest) = record_words d ++ records_words rest

abbrev pub node_words : Node → List ℕ
node_words n = n.kept.0 ∷ head_word n.syncs_per_cycle n.round ∷ records_words n.domains

-- ---- What the types of a node's fields say.
pub record RecordFits (d : Domain) : Type 0 where
  pub state : StateFits d
  pub settings : SettingsFit d.settings
  pub number : d.number < 256

pub record NodeFits (n : Node) : Type 0 where
  pub sixteen : length n.domains ≡ places
  pub records : (i : ℕ) → i < places → RecordFits (record_at n.domains i)
  pub syncs : n.syncs_per_cycle < 256
  pub round : n.round < 256
