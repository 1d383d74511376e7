-- A domain that is no master's stays so, and a main cycle is never for it. No contract cites this file.
--   others_elsewhere    among calls in any order those that are not for a domain are for others, if it is no master's
--   others_undisturbed  so that its own calls among others are answered as they are alone
-- Assumes nothing.
use Prim.Native.Nat.{ℕ, ◌%◌, ◌<◌}
use mathlib.Core.Path.{◌≡◌, sym, ap, ◌∙◌}
use mathlib.Core.Bool.{false}
use mathlib.Core.List.{List, [], ◌∷◌}
use borrow.Author.Tests.{eqb-false}
use Rattle.settings.specs.declared.domain_settings.DomainSettings.{DomainSettings}
use Rattle.settings.specs.Node.{places}
use Rattle.master_rules.specs.Due.{is_master}
use Rattle.node.specs.declared.Node.{Node}
use Rattle.node.specs.Frame.{addressed_by}
use Rattle.node_call.specs.Calls.{Call, frame, read, set, cycle, confirm, node_after}
use Rattle.node_laws.specs.Reachable.{AreCalls, Reachable}
use Rattle.node_laws.specs.Apart.{Elsewhere, is_own, NoMaster, OthersElsewhere, Undisturbed}
use Rattle.node_laws.proofs.Interleaved.{undisturbed}
use Rattle.node_laws.proofs.Stays.{settings_stay}

elsewhere : (n : Node) (c : Call) (i : ℕ) → NoMaster n i → is_own c i ≡ false → Elsewhere n c i
elsewhere n (frame t bytes) i m w = λ e. eqb-false (addressed_by bytes) i w (sym e)
elsewhere n (read domain t) i m w = tt
elsewhere n (set domain t s ns) i m w = λ e. eqb-false (domain % places) i w (sym e)
elsewhere n (cycle t out) i m w = m
elsewhere n (confirm domain t counter out) i m w = λ e. eqb-false (domain % places) i w (sym e)

pub others_elsewhere : (n : Node) (cs : List Call) (i : ℕ) → NoMaster n i → OthersElsewhere n cs i
others_elsewhere n [] i m = tt
others_elsewhere n (c ∷ rest) i m = (
  elsewhere n c i m,
  others_elsewhere (node_after n c) rest i
      (ap (λ (s : DomainSettings). is_master s.role) (settings_stay n c i) ∙ m),
)

pub others_undisturbed :
    (n : Node) → Reachable n → (cs : List Call) (i : ℕ) → i < places → AreCalls cs → NoMaster n i → Undisturbed n cs i
others_undisturbed n r cs i below are m = undisturbed n r cs i below are (others_elsewhere n cs i m)
