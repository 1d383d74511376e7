-- A record whose role's byte is no master's is not due. No contract cites this file. Assumes nothing.
use Rattle.std.specs.Prelude.{Option, is_some}
use Prim.Native.Nat.{ℕ}
use mathlib.Core.Path.{◌≡◌, refl, sym, ap, ◌∙◌}
use mathlib.Core.Bool.{false, true≢false}
use mathlib.Core.List.{List}
use lib.Dec.{eqb}
use lib.ListN.{get_or}
use Rattle.promise.proofs.Tests.{either}
use Rattle.clock.specs.declared.reading.VirtualLocalTime.{VirtualLocalTime}
use Rattle.settings.specs.declared.domain_settings.Role.{Role}
use Rattle.master_rules.specs.Due.{is_master}
use Rattle.master_rules.proofs.Laws.{by_due}
use Rattle.master_send.specs.Send.{is_due}
use Rattle.record_words.specs.Packed.{byte4}
use Rattle.record_words.specs.Parts.{role_of}
use Rattle.node_words.specs.Words.{record_by}
use Rattle.master_rules.specs.declared.due.Due.{Due}

no_master : (word : ℕ) → eqb (byte4 word) 2 ≡ false → is_master (role_of word) ≡ false
no_master word e = rw e (either (λ (r : Role). is_master r ≡ false) (eqb (byte4 word) 1) refl refl)

pub not_due :
    (given state : List ℕ) (t : VirtualLocalTime) → eqb (byte4 (get_or given 5 0)) 2 ≡ false →
    is_due (record_by given state) t ≡ false
not_due given state t e =
    let d = record_by given state in
    by_due (λ (due : Option Due). is_some due ≡ false) d.settings.role d.settings.period d.base d.sending t refl
    (λ b due. absurd (true≢false (sym (ap is_master due.master) ∙ no_master (get_or given 5 0) e)))
