-- Paper 01, "Settings of a node": the fresh node, and 14. Assumes nothing.
use Rattle.std.specs.Prelude.{ℕ, ◌+◌, List, [], ◌∷◌, replicate, Err, Ok, ⊤}
use Rattle.settings.specs.declared.domain_settings.DomainSettings.{DomainSettings}
use Rattle.settings.specs.declared.node_settings.NodeSettings.{NodeSettings}
use Rattle.settings.specs.Domain.{absent_held}
use Rattle.settings.specs.Node.{places, judged_of}
use Rattle.domain.specs.declared.Domain.{Domain}
use Rattle.domain.specs.Fresh.{fresh_of}
use Rattle.node.specs.declared.Node.{Node}
use Rattle.node.specs.declared.NodeStep.{NodeStep}
use Rattle.refusal.specs.Numbers.{Outcome}

-- ---- the records of domains `number`, `number` + 1, ..
abbrev pub records_of : (number : ℕ) → List DomainSettings → List Domain
records_of number [] = []
records_of number (s ∷ rest) = fresh_of number s ∷ records_of (number + 1) rest

-- ---- "Good settings give a fresh node: .. kept reading 0"
abbrev pub fresh_node : (s : ℕ) → List DomainSettings → Node
fresh_node s domains =
    record { domains = records_of 0 domains; kept = record { 0 = 0 }; syncs_per_cycle = s; round = 0 }

-- ---- "Refused ones give, beside the number, such a node with all domains absent and S 1"
abbrev pub new_as : Outcome ⊤ → NodeSettings → NodeStep (Outcome ⊤)
new_as (Ok tt) n = record { answer = Ok tt; node = fresh_node n.syncs_per_cycle n.domains }
new_as (Err refusal) n = record { answer = Err refusal; node = fresh_node 1 (replicate places absent_held) }

abbrev pub new_of : NodeSettings → NodeStep (Outcome ⊤)
new_of n = new_as (judged_of n) n
