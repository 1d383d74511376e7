-- Paper 01, "A master's domain": main cycle. A domain's turn in the round, and where the next round starts.
-- Assumes nothing.
use Rattle.std.specs.Prelude.{ℕ, ◌+◌, ◌%◌, Bool, cond, None, Option, Some}
use Rattle.clock.specs.declared.reading.VirtualLocalTime.{VirtualLocalTime}
use Rattle.settings.specs.Node.{places}
use Rattle.domain.specs.declared.Domain.{Domain}
use Rattle.master_send.specs.Send.{send_of}
use Rattle.domain.specs.declared.DomainStep.{DomainStep}
use Rattle.frame.specs.declared.values.Sync.{Sync}

-- ---- "the first S due domains send": once S have sent, no other does
abbrev pub turn_of : (maySend : Bool) → Domain → VirtualLocalTime → DomainStep (Option Sync)
turn_of maySend d t = cond maySend (send_of d t) (record { answer = None; domain = d })

-- ---- "going round": the place after p of n
abbrev pub next_place : (n p : ℕ) → ℕ
next_place n p = (p + 1) % n

-- ---- "Starting after the domain served last"
abbrev pub next_after : Option Sync → (at next : ℕ) → ℕ
next_after (Some s) at next = next_place places (at % places)
next_after None at next = next
