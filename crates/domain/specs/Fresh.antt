-- Paper 01, "Settings of a node": "Good settings give a fresh node: no base set, no counter known, no
-- pair open, update counters 0". Assumes nothing.
use Rattle.std.specs.Prelude.{ℕ, false, None}
use Rattle.settings.specs.declared.domain_settings.DomainSettings.{DomainSettings}
use Rattle.settings.specs.Domain.{held_of}
use Rattle.domain.specs.declared.Domain.{Domain}
use Rattle.domain.specs.declared.LastSync.TheVariants.{Unknown}
use Rattle.domain.specs.declared.Sending.TheVariants.{Never}

abbrev pub fresh_of : ℕ → DomainSettings → Domain
fresh_of number settings =
    record {
      settings = held_of settings;
      base = None;
      pairing = None;
      last = Unknown;
      sending = Never;
      number = number;
      user = record { 0 = 0; 1 = 0; 2 = 0 };
      sgw = false;
      leap = None;
      updates = 0;
      next_counter = 0;
    }
