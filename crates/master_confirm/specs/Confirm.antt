-- Paper 01, "A master's domain": confirmation. Assumes nothing.
use Rattle.std.specs.Prelude.{ℕ, Bool, false, Err, Ok}
use Rattle.clock.specs.declared.reading.VirtualLocalTime.{VirtualLocalTime}
use Rattle.refusal.specs.Numbers.{number_of, Outcome}
use Rattle.domain.specs.declared.Domain.{Domain}
use Rattle.domain.specs.Fields.{with_sending}
use Rattle.domain.specs.declared.Sending.TheVariants.{Confirmed}
use Rattle.master_rules.specs.Sent.{protection_of}
use Rattle.master_follow.specs.Follow.{follow_of}
use Rattle.domain.specs.declared.DomainStep.{DomainStep}
use Rattle.frame.specs.declared.values.Fup.{Fup}
use Rattle.master_follow.specs.declared.Follow.{Follow}

-- ---- "The FUP carries the same counter, SGW 0, as OVS the whole seconds beyond those sent, and the
-- nanoseconds. The SYNC is then no longer open."
abbrev pub followed_of : Domain → (counter ovs nanoseconds : ℕ) → VirtualLocalTime → DomainStep (Outcome Fup)
followed_of d counter ovs nanoseconds at =
    record {
      answer =
          Ok
          (record {
            domain = d.number;
            counter = counter;
            sgw = false;
            ovs = ovs;
            nanoseconds = nanoseconds;
            protection = protection_of d.settings.security d.settings.user.2;
          });
      domain = with_sending d (Confirmed at);
    }

abbrev pub confirm_as : Outcome Follow → Domain → ℕ → DomainStep (Outcome Fup)
confirm_as (Ok follow) d counter = followed_of d counter follow.ovs follow.nanoseconds follow.sent_at
confirm_as (Err refusal) d counter = record { answer = Err refusal; domain = d }

-- ---- `room` says whether the buffer has the 8 bytes of a FUP
abbrev pub confirm_of : Domain → VirtualLocalTime → (counter : ℕ) → (room : Bool) → DomainStep (Outcome Fup)
confirm_of d t counter room =
    confirm_as (follow_of d.settings.confirmation_time d.sending t counter room) d counter
