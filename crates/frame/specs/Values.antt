-- Paper 01, "Frames": what the values of either kind have. Assumes nothing.
use Rattle.std.specs.Prelude.{ℕ}
use Rattle.frame.specs.declared.values.Frame.{Frame}
use Rattle.frame.specs.declared.values.Frame.TheVariants.{Sync as sync, Fup as fup}
use Rattle.frame.specs.declared.values.Protection.{Protection}

-- ---- the domain that they name
abbrev pub domain_in : Frame → ℕ
domain_in (sync s) = s.domain
domain_in (fup f) = f.domain

-- ---- plain or secured
abbrev pub protection_in : Frame → Protection
protection_in (sync s) = s.protection
protection_in (fup f) = f.protection
