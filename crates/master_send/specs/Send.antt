-- Paper 01, "A master's domain": the main cycle's part on one domain. Assumes nothing.
use Rattle.std.specs.Prelude.{ℕ, ◌+◌, ◌%◌, Bool, true, false, None, Option, Some, is_some}
use Rattle.clock.specs.declared.reading.VirtualLocalTime.{VirtualLocalTime}
use Rattle.frame.specs.ByteTwo.{counters}
use Rattle.domain.specs.declared.Domain.{Domain}
use Rattle.domain.specs.Fields.{with_sending, with_next}
use Rattle.domain.specs.declared.Sending.TheVariants.{Open}
use Rattle.master_rules.specs.Due.{due_of}
use Rattle.master_rules.specs.Sent.{protection_of}
use Rattle.domain.specs.declared.DomainStep.{DomainStep}
use Rattle.frame.specs.declared.values.Sync.{Sync}
use Rattle.master_rules.specs.declared.due.Due.{Due}

abbrev pub due_in : Domain → VirtualLocalTime → Option Due
due_in d t = due_of d.settings.role d.settings.period d.base d.sending t

abbrev pub is_due : Domain → VirtualLocalTime → Bool
is_due d t = is_some (due_in d t)

-- ---- "Each frame carries the seconds at t and the next counter, 0 first, 15 then 0. The domain holds
-- this SYNC's time, counter and reading as open, in place of an older one."
abbrev pub sent_of : Domain → (seconds nanoseconds : ℕ) → VirtualLocalTime → DomainStep (Option Sync)
sent_of d seconds nanoseconds t =
    record {
      answer =
          Some
          (record {
            domain = d.number;
            counter = d.next_counter % counters;
            user0 = d.settings.user.0;
            seconds = seconds;
            protection = protection_of d.settings.security d.settings.user.1;
          });
      domain =
          with_next (with_sending d (Open (d.next_counter % counters) seconds nanoseconds t))
          ((d.next_counter % counters + 1) % counters);
    }

abbrev pub send_as : Option Due → Domain → VirtualLocalTime → DomainStep (Option Sync)
send_as (Some due) d t = sent_of d due.seconds due.nanoseconds t
send_as None d t = record { answer = None; domain = d }

abbrev pub send_of : Domain → VirtualLocalTime → DomainStep (Option Sync)
send_of d t = send_as (due_in d t) d t
