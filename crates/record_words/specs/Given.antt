-- Paper 01, "Settings of a node", in words: "A role's settings are read only for that role". A code that is read and
-- is none is out of range. Assumes nothing.
use Rattle.std.specs.Prelude.{ℕ, Bool, true, false, cond, List, eqb, leb, get_or}
use Rattle.settings.specs.declared.domain_settings.DomainSettings.{DomainSettings}
use Rattle.settings.specs.Domain.{no_settings}
use Rattle.record_words.specs.Packed.{byte4, byte5, byte7}
use Rattle.record_words.specs.Record.{settings_of}

-- ---- whether the role's code is one, and the code that the role has read: a slave's mode, a master's security
abbrev pub is_coded : (kinds sent : ℕ) → Bool
is_coded kinds sent =
    cond (eqb (byte4 kinds) 0) true
    (cond (eqb (byte4 kinds) 1) (leb (byte5 kinds) 3) (cond (eqb (byte4 kinds) 2) (leb (byte7 sent) 1) false))

-- ---- the settings that words give
abbrev pub given_of : List ℕ → DomainSettings
given_of words = cond (is_coded (get_or words 5 0) (get_or words 6 0)) (settings_of words) no_settings
