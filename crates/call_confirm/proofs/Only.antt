-- No two results satisfy the promise of F, as `F_only` for each public function F. No contract cites
-- this file.
-- Assumes nothing.
use Prim.Native.Nat.{ℕ}
use mathlib.Core.Path.{◌∙◌, ap, sym}
use mathlib.Core.List.{List}
use Rattle.promise.specs.Only.{OnlyOne}
use Rattle.promise.proofs.Laws.{equation_only}
use Rattle.clock.specs.declared.reading.VirtualLocalTime.{VirtualLocalTime}
use Rattle.domain.specs.declared.Domain.{Domain}
use Rattle.call_confirm.specs.ConfirmCall.{confirm_bytes, ConfirmedIn}
use Rattle.domain.specs.declared.DomainCall.{DomainCall}
use Rattle.frame.specs.declared.values.Fup.{Fup}
use Rattle.refusal.specs.Numbers.{Outcome}

-- ---- The bytes after the call follow from the answer, and the answer from the record.
pub confirm_call_only :
    (d : Domain) (kept : VirtualLocalTime) (asked : ℕ) (t : VirtualLocalTime) (counter : ℕ) (before : List ℕ) →
    OnlyOne (λ (r : DomainCall (Outcome Fup) × List ℕ). ConfirmedIn d kept asked t counter before r.0 r.1)
confirm_call_only d kept asked t counter before x y p q =
    let a = equation_only _ x.0 y.0 p.call q.call in
    let b =
    p.bytes
    ∙ ap (λ (r : DomainCall (Outcome Fup)). confirm_bytes r.answer d.settings.ids before) a
    ∙ sym q.bytes
    in
    λ i. (a i, b i)
