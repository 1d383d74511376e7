-- A settings block of the trial: the mark C7 3B, S, n, and n domain blocks of 128 bytes. Assumes nothing.
use Rattle.std.specs.Prelude.{ℕ, ◌+◌, ◌*◌, cond, List, ltb, get_or, replicate}
use Rattle.text.specs.Fields.{fields_at}
use Rattle.settings.specs.declared.domain_settings.DomainSettings.{DomainSettings}
use Rattle.settings.specs.declared.node_settings.NodeSettings.{NodeSettings}
use Rattle.settings.specs.Domain.{absent_held}
use Rattle.trial_step.specs.DomainBlock.{domain_at}

-- ---- Domains without a block are absent.
abbrev pub one_of : (blocks : ℕ) → List ℕ → (d : ℕ) → DomainSettings
one_of blocks item d = cond (ltb d blocks) (domain_at item (4 + 128 * d)) absent_held

abbrev pub domains_of : (k blocks : ℕ) → List ℕ → List DomainSettings
domains_of k blocks item = fields_at (one_of blocks item) 1 k 0

-- ---- "with n above 16 the answer is 14": settings that no node takes, with S 0.
abbrev pub settings_of : List ℕ → NodeSettings
settings_of item =
    cond (ltb 16 (get_or item 3 0))
    (record { syncs_per_cycle = 0; domains = replicate 16 absent_held })
    (record { syncs_per_cycle = get_or item 2 0; domains = domains_of 16 (get_or item 3 0) item })
