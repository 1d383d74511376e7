-- The records of a node, by their places. Assumes nothing.
use Rattle.std.specs.Prelude.{ℕ, List, get_or}
use Rattle.settings.specs.Domain.{absent_held}
use Rattle.domain.specs.declared.Domain.{Domain}
use Rattle.domain.specs.Fresh.{fresh_of}

-- ---- the record at a place; where there is none, that of an absent domain
abbrev pub record_at : List Domain → ℕ → Domain
record_at records at = get_or records at (fresh_of 0 absent_held)
