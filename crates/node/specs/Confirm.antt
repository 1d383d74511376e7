-- Paper 01, "A master's domain": a node's confirmation call. Assumes nothing.
use Rattle.std.specs.Prelude.{ℕ, ◌%◌, ◌≡◌, List, length}
use Rattle.clock.specs.declared.reading.VirtualLocalTime.{VirtualLocalTime}
use Rattle.call_confirm.specs.ConfirmCall.{confirm_call_of, confirm_bytes}
use Rattle.settings.specs.Node.{places}
use Rattle.domain.specs.Records.{record_at}
use Rattle.node.specs.declared.Node.{Node}
use Rattle.node.specs.Store.{stored_in}
use Rattle.domain.specs.declared.DomainCall.{DomainCall}
use Rattle.frame.specs.declared.values.Fup.{Fup}
use Rattle.node.specs.declared.NodeStep.{NodeStep}
use Rattle.refusal.specs.Numbers.{Outcome}

abbrev pub confirm_stored : Node → (at : ℕ) → DomainCall (Outcome Fup) → NodeStep (Outcome Fup)
confirm_stored n at r = record { answer = r.answer; node = stored_in n at r.domain r.kept }

abbrev pub node_confirm_of : Node → (domain : ℕ) → VirtualLocalTime → (counter length : ℕ) → NodeStep (Outcome Fup)
node_confirm_of n domain t counter length =
    confirm_stored n (domain % places)
    (confirm_call_of (record_at n.domains (domain % places)) n.kept domain t counter length)

-- ---- "On success bytes beyond those written stay."
abbrev pub confirmed_bytes : Outcome Fup → Node → (domain : ℕ) → List ℕ → List ℕ
confirmed_bytes answer n domain out = confirm_bytes answer (record_at n.domains (domain % places)).settings.ids out

-- ---- The promise: the call, and every lent byte.
pub record NodeConfirmedIn
    (n : Node) (domain : ℕ) (t : VirtualLocalTime) (counter : ℕ) (before : List ℕ)
    (r : NodeStep (Outcome Fup)) (after : List ℕ) : Type 0 where
  pub call : r ≡ node_confirm_of n domain t counter (length before)
  pub bytes : after ≡ confirmed_bytes r.answer n domain before
