-- What no node takes is refused. No contract cites this file.
--   no_settings_refused   what an unknown code reads as is out of range
-- Assumes nothing.
use mathlib.Core.Path.{◌≡◌, refl}
use mathlib.Core.Bool.{false}
use Rattle.settings.specs.Ranges.{is_good}
use Rattle.settings.specs.Domain.{no_settings}

pub no_settings_refused : is_good no_settings ≡ false
no_settings_refused = refl
