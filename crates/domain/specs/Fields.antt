-- What a step changes of a record: one definition for each part, all else as it was. Assumes nothing.
use Rattle.std.specs.Prelude.{ℕ, Bool, Option}
use Rattle.settings.specs.declared.domain_settings.UserBytes.{UserBytes}
use Rattle.domain.specs.declared.Domain.{Domain}
use Rattle.domain.specs.declared.LastSync.{LastSync}
use Rattle.domain.specs.declared.Sending.{Sending}
use Rattle.domain.specs.Updates.{next_update}
use Rattle.clock.specs.declared.base.TimeBase.{TimeBase}
use Rattle.domain.specs.declared.Leap.{Leap}
use Rattle.domain.specs.declared.Pair.{Pair}

-- ---- Either role's: the base, and "The update counter rises by 1".
abbrev pub with_base : Domain → Option TimeBase → Domain
with_base d base =
    record {
      settings = d.settings;
      base = base;
      pairing = d.pairing;
      last = d.last;
      sending = d.sending;
      number = d.number;
      user = d.user;
      sgw = d.sgw;
      leap = d.leap;
      updates = d.updates;
      next_counter = d.next_counter;
    }

abbrev pub with_update : Domain → Domain
with_update d =
    record {
      settings = d.settings;
      base = d.base;
      pairing = d.pairing;
      last = d.last;
      sending = d.sending;
      number = d.number;
      user = d.user;
      sgw = d.sgw;
      leap = d.leap;
      updates = next_update d.updates;
      next_counter = d.next_counter;
    }

-- ---- A slave's: the pairing, the SYNC accepted last, what is stored at a FUP.
abbrev pub with_pairing : Domain → Option Pair → Domain
with_pairing d pairing =
    record {
      settings = d.settings;
      base = d.base;
      pairing = pairing;
      last = d.last;
      sending = d.sending;
      number = d.number;
      user = d.user;
      sgw = d.sgw;
      leap = d.leap;
      updates = d.updates;
      next_counter = d.next_counter;
    }

abbrev pub with_last : Domain → LastSync → Domain
with_last d last =
    record {
      settings = d.settings;
      base = d.base;
      pairing = d.pairing;
      last = last;
      sending = d.sending;
      number = d.number;
      user = d.user;
      sgw = d.sgw;
      leap = d.leap;
      updates = d.updates;
      next_counter = d.next_counter;
    }

abbrev pub with_stored : Domain → UserBytes → Bool → Option Leap → Domain
with_stored d user sgw leap =
    record {
      settings = d.settings;
      base = d.base;
      pairing = d.pairing;
      last = d.last;
      sending = d.sending;
      number = d.number;
      user = user;
      sgw = sgw;
      leap = leap;
      updates = d.updates;
      next_counter = d.next_counter;
    }

-- ---- A master's: the SYNC sent last, the counter to send next.
abbrev pub with_sending : Domain → Sending → Domain
with_sending d sending =
    record {
      settings = d.settings;
      base = d.base;
      pairing = d.pairing;
      last = d.last;
      sending = sending;
      number = d.number;
      user = d.user;
      sgw = d.sgw;
      leap = d.leap;
      updates = d.updates;
      next_counter = d.next_counter;
    }

abbrev pub with_next : Domain → ℕ → Domain
with_next d next =
    record {
      settings = d.settings;
      base = d.base;
      pairing = d.pairing;
      last = d.last;
      sending = d.sending;
      number = d.number;
      user = d.user;
      sgw = d.sgw;
      leap = d.leap;
      updates = d.updates;
      next_counter = next;
    }
