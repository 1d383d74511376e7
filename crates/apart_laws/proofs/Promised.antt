-- What the functions promise is what `done_on` says: `frame_on`, and the calls by value. No contract cites this file.
--   frame_done     whatever satisfies the promise of `frame_on`, the lent record after it among that
--   read_done      that of `read_call`
--   set_done       that of `set_call`
--   confirm_done   that of `confirm_call`, the lent bytes after it among that
-- Assumes nothing.
use Rattle.std.specs.Prelude.{⊤}
use Prim.Native.Nat.{ℕ}
use mathlib.Core.Path.{◌≡◌, ap, ◌∙◌}
use mathlib.Core.List.{List, []}
use Rattle.clock.specs.declared.reading.VirtualLocalTime.{VirtualLocalTime}
use Rattle.domain.specs.declared.Domain.{Domain}
use Rattle.lent_frame.specs.declared.LentFrame.{LentFrame}
use Rattle.lent_frame.specs.Lent.{TakenOn}
use Rattle.call_read.specs.ReadCall.{read_call_of}
use Rattle.call_set.specs.SetCall.{set_call_of}
use Rattle.call_confirm.specs.ConfirmCall.{confirm_bytes, ConfirmedIn}
use Rattle.node_call.specs.declared.CallAnswer.{CallAnswer}
use Rattle.node_call.specs.declared.CallAnswer.TheVariants as told
use Rattle.apart_laws.specs.Apart.{frame, read, set, confirm, Done, done_on}
use Rattle.call_read.specs.declared.Shown.{Shown}
use Rattle.domain.specs.declared.DomainCall.{DomainCall}
use Rattle.frame.specs.declared.values.Fup.{Fup}
use Rattle.refusal.specs.Numbers.{Outcome}

-- ---- what a call gave, as `Done`
abbrev gave : CallAnswer → (out : List ℕ) → Domain → (kept : VirtualLocalTime) → Done
gave answer out d kept = record { reply = record { answer = answer; out = out }; domain = d; kept = kept }

module _ (d : Domain) (kept t : VirtualLocalTime) where
  pub frame_done :
      (bytes : List ℕ) (r : LentFrame) (after : Domain) → TakenOn d kept t bytes r after →
      gave (told.Frame r.answer) [] after r.kept ≡ done_on d kept (frame t bytes)
  frame_done bytes r after p = λ i. gave (told.Frame (p.call i).answer) [] (p.domain i) (p.call i).kept

  pub read_done :
      (domain : ℕ) (r : Outcome Shown) → r ≡ read_call_of d kept domain t →
      gave (told.Read r) [] d kept ≡ done_on d kept (read domain t)
  read_done domain r p = ap (λ (r : Outcome Shown). gave (told.Read r) [] d kept) p

  pub set_done :
      (domain seconds nanoseconds : ℕ) (r : DomainCall (Outcome ⊤)) → r ≡ set_call_of d kept domain t seconds nanoseconds →
      gave (told.Set r.answer) [] r.domain r.kept ≡ done_on d kept (set domain t seconds nanoseconds)
  set_done domain seconds nanoseconds r p =
      ap (λ (r : DomainCall (Outcome ⊤)). gave (told.Set r.answer) [] r.domain r.kept) p

  pub confirm_done :
      (domain counter : ℕ) (out : List ℕ) (r : DomainCall (Outcome Fup)) (after : List ℕ) →
      ConfirmedIn d kept domain t counter out r after →
      gave (told.Confirm r.answer) after r.domain r.kept ≡ done_on d kept (confirm domain t counter out)
  confirm_done domain counter out r after p =
      ap (λ (bytes : List ℕ). gave (told.Confirm r.answer) bytes r.domain r.kept) p.bytes
      ∙ ap (λ (r : DomainCall (Outcome Fup)).
      gave (told.Confirm r.answer) (confirm_bytes r.answer d.settings.ids out) r.domain r.kept) p.call
