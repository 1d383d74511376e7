-- Before the first call each record is the fresh one of its settings. No contract cites this file.
--   fresh_record   the records of a fresh node
-- Assumes nothing.
use Rattle.std.specs.Prelude.{Ok, ⊤}
use Prim.Native.Nat.{ℕ, zero, suc, ◌+◌, ◌<◌}
use mathlib.Core.Path.{◌≡◌, ap, ◌∙◌}
use mathlib.Core.List.{List, [], ◌∷◌}
use native.Mathlib.Omega.{arith}
use lib.ListN.{length, get_or}
use borrow.Author.Tests.{eqb-true}
use Rattle.promise.proofs.Tests.{both}
use Rattle.settings.specs.Node.{places}
use Rattle.settings.specs.declared.domain_settings.DomainSettings.{DomainSettings}
use Rattle.settings.specs.Domain.{absent_held}
use Rattle.settings.specs.declared.node_settings.NodeSettings.{NodeSettings}
use Rattle.settings.specs.Node.{judged_of}
use Rattle.domain.specs.Fresh.{fresh_of}
use Rattle.domain.specs.Records.{record_at}
use Rattle.node.specs.New.{records_of, new_as, new_of}
use Rattle.node_laws.specs.Reachable.{IsSettings}
use Rattle.refusal.specs.Numbers.{Outcome}

fresh_at :
    (number : ℕ) (l : List DomainSettings) (at i : ℕ) → at < length l → number + at ≡ i →
    record_at (records_of number l) at ≡ fresh_of i (get_or l at absent_held)
fresh_at number [] at i h e = absurd (omega arith)
fresh_at number (x ∷ rest) zero i h e = ap (λ (n : ℕ). fresh_of n x) (omega arith)
fresh_at number (x ∷ rest) (suc at) i h e = fresh_at (number + 1) rest at i (omega arith) (omega arith)

pub fresh_record :
    (s : NodeSettings) (i : ℕ) → IsSettings s → judged_of s ≡ Ok tt → i < places →
    record_at (new_of s).node.domains i ≡ fresh_of i (get_or s.domains i absent_held)
fresh_record s i is good h =
    let sixteen : length s.domains ≡ places = eqb-true _ _ (both _ _ is).0 in
    ap (λ (v : Outcome ⊤). record_at (new_as v s).node.domains i) good
    ∙ fresh_at 0 s.domains i i (omega arith) (omega arith)
