-- What no node takes is refused, by 14. No contract cites this file.
--   too_many_refused   with n above 16 the settings are refused: S is 0
-- Assumes nothing.
use Rattle.std.specs.Prelude.{Err}
use Prim.Native.Nat.{ℕ}
use mathlib.Core.Path.{◌≡◌}
use mathlib.Core.Bool.{true}
use mathlib.Core.List.{List}
use lib.Dec.{ltb}
use lib.ListN.{get_or}
use Rattle.refusal.specs.declared.Refusal.TheVariants.{Settings}
use Rattle.settings.specs.Node.{judged_of}
use Rattle.trial_step.specs.Block.{settings_of}

pub too_many_refused : (item : List ℕ) → ltb 16 (get_or item 3 0) ≡ true → judged_of (settings_of item) ≡ Err Settings
too_many_refused item e = rw e
