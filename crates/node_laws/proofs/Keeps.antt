-- Laws of the calls on one record. No contract cites this file.
--   refusal_keeps_frame_call     a refused frame leaves the record and the kept reading, but under 6 and 15
--   refusal_keeps_set_call       a refused set leaves them under every number
--   refusal_keeps_confirm_call   and a refused confirmation, which leaves the lent bytes too
-- Assumes nothing.
use Rattle.std.specs.Prelude.{Err, Ok, ⊤}
use Prim.Native.Nat.{ℕ}
use mathlib.Core.List.{List}
use mathlib.Core.Path.{◌≡◌, refl}
use lib.Dec.{leb}
use lib.ListN.{length}
use borrow.Author.Tests.{ne_eqb}
use Rattle.clock.specs.declared.reading.VirtualLocalTime.{VirtualLocalTime}
use Rattle.frame.specs.declared.data_ids.DataIds.{DataIds}
use Rattle.refusal.specs.declared.Refusal.{Refusal}
use Rattle.refusal.specs.Numbers.{StateStays, Outcome, outcome_number}
use Rattle.admission.specs.Admission.{admitted_of}
use Rattle.admission.specs.FrameAdmission.{frame_admitted}
use Rattle.admission.specs.declared.Needed.TheVariants.{Master}
use Rattle.domain.specs.declared.Domain.{Domain}
use Rattle.slave_frame.proofs.Laws.{refusal_keeps_frame}
use Rattle.slave_frame.specs.Step.{frame_of}
use Rattle.master_confirm.proofs.Laws.{refusal_keeps_confirm}
use Rattle.master_confirm.specs.Confirm.{confirm_of}
use Rattle.master_set.proofs.Laws.{refusal_keeps_set}
use Rattle.master_set.specs.Set.{set_of}
use Rattle.call_confirm.specs.ConfirmCall.{confirm_bytes, confirm_call_as, confirm_call_of}
use Rattle.call_frame.specs.FrameCall.{frame_call_as, frame_call_of}
use Rattle.call_set.specs.SetCall.{set_call_as, set_call_of}
use Rattle.domain.specs.declared.DomainCall.{DomainCall}
use Rattle.frame.specs.declared.values.Frame.{Frame}
use Rattle.frame.specs.declared.values.Fup.{Fup}
use Rattle.slave_answer.specs.declared.Taken.{Taken}

-- ---- a frame

abbrev KeepsFrame : Domain → VirtualLocalTime → DomainCall (Outcome Taken) → Type 0
KeepsFrame d kept r = StateStays (outcome_number r.answer) → (r.domain ≡ d) × (r.kept ≡ kept)

frame_keeps :
    (f : Outcome Frame) (d : Domain) (kept t : VirtualLocalTime) (bytes : List ℕ) →
    KeepsFrame d kept (frame_call_as f d kept t bytes)
frame_keeps (Err refusal) d kept t bytes = λ n. (refl, refl)
frame_keeps (Ok values) d kept t bytes =
    λ n.
    let number = outcome_number (frame_of d t bytes values).answer in
    (refusal_keeps_frame d t bytes values n, rw (ne_eqb number 15 n.2, ne_eqb number 0 n.0))

pub refusal_keeps_frame_call :
    (d : Domain) (kept t : VirtualLocalTime) (bytes : List ℕ) → KeepsFrame d kept (frame_call_of d kept t bytes)
refusal_keeps_frame_call d kept t bytes =
    frame_keeps (frame_admitted kept t d.number d.settings.role bytes) d kept t bytes

-- ---- a set

abbrev KeepsSet : Domain → VirtualLocalTime → DomainCall (Outcome ⊤) → Type 0
KeepsSet d kept r = (outcome_number r.answer ≡ 0 → ⊥) → (r.domain ≡ d) × (r.kept ≡ kept)

refused_set :
    (a : Outcome ⊤) → (outcome_number a ≡ 0 → ⊥) → {P : Type 0} → ((refusal : Refusal) → a ≡ Err refusal → P) → P
refused_set (Ok tt) n p = absurd (n refl)
refused_set (Err refusal) n p = p refusal refl

set_keeps :
    (f : Outcome ⊤) (d : Domain) (kept t : VirtualLocalTime) (s n : ℕ) → KeepsSet d kept (set_call_as f d kept t s n)
set_keeps (Err refusal) d kept t s n = λ e. (refl, refl)
set_keeps (Ok tt) d kept t s n =
    λ e. (
      refused_set (set_of d t s n).answer e (refusal_keeps_set d t s n),
      rw (ne_eqb (outcome_number (set_of d t s n).answer) 0 e),
    )

pub refusal_keeps_set_call :
    (d : Domain) (kept : VirtualLocalTime) (asked : ℕ) (t : VirtualLocalTime) (s n : ℕ) →
    KeepsSet d kept (set_call_of d kept asked t s n)
refusal_keeps_set_call d kept asked t s n =
    set_keeps (admitted_of kept t d.number d.settings.role asked Master) d kept t s n

-- ---- a confirmation

abbrev KeepsConfirm : Domain → VirtualLocalTime → List ℕ → DomainCall (Outcome Fup) → Type 0
KeepsConfirm d kept out r =
    (outcome_number r.answer ≡ 0 → ⊥) →
    (r.domain ≡ d) × (r.kept ≡ kept) × (confirm_bytes r.answer d.settings.ids out ≡ out)

refused_confirm :
    (a : Outcome Fup) → (outcome_number a ≡ 0 → ⊥) → {P : Type 0} → ((refusal : Refusal) → a ≡ Err refusal → P) → P
refused_confirm (Ok f) n p = absurd (n refl)
refused_confirm (Err refusal) n p = p refusal refl

refused_bytes :
    (a : Outcome Fup) → (outcome_number a ≡ 0 → ⊥) → (ids : DataIds) (out : List ℕ) → confirm_bytes a ids out ≡ out
refused_bytes (Ok f) n ids out = absurd (n refl)
refused_bytes (Err refusal) n ids out = refl

confirm_keeps :
    (f : Outcome ⊤) (d : Domain) (kept t : VirtualLocalTime) (counter : ℕ) (out : List ℕ) →
    KeepsConfirm d kept out (confirm_call_as f d kept t counter (length out))
confirm_keeps (Err refusal) d kept t counter out = λ n. (refl, refl, refl)
confirm_keeps (Ok tt) d kept t counter out =
    λ n.
    let room = leb 8 (length out) in
    let answer = (confirm_of d t counter room).answer in (
      refused_confirm answer n (refusal_keeps_confirm d t counter room),
      rw (ne_eqb (outcome_number answer) 0 n),
      refused_bytes answer n d.settings.ids out,
    )

pub refusal_keeps_confirm_call :
    (d : Domain) (kept : VirtualLocalTime) (asked : ℕ) (t : VirtualLocalTime) (counter : ℕ) (out : List ℕ) →
    KeepsConfirm d kept out (confirm_call_of d kept asked t counter (length out))
refusal_keeps_confirm_call d kept asked t counter out =
    confirm_keeps (admitted_of kept t d.number d.settings.role asked Master) d kept t counter out
