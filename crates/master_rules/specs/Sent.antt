-- Paper 01, "A master's domain": how its frames go out. Assumes nothing.
use Rattle.std.specs.Prelude.{ℕ}
use Rattle.frame.specs.declared.values.Protection.{Protection}
use Rattle.frame.specs.declared.values.Protection.TheVariants.{Plain as plain, Secured as secured}
use Rattle.settings.specs.declared.domain_settings.Security.{Security}
use Rattle.settings.specs.declared.domain_settings.Security.TheVariants.{Plain, Secured}

-- ---- "per master plain or secured, the user bytes a master sends"
abbrev pub protection_of : Security → ℕ → Protection
protection_of Plain user = plain user
protection_of Secured user = secured
