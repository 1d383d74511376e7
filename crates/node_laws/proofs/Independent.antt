-- Calls for other domains, however many, do not change a domain's answers but through the kept reading. No
-- contract cites this file.
--   others_keep   they leave its record as it was
--   independent   so that it answers as on a node that had no such calls and keeps that reading
-- Assumes nothing.
use Prim.Native.Nat.{ℕ}
use mathlib.Core.Path.{◌≡◌, refl, ◌∙◌}
use mathlib.Core.List.{List, [], ◌∷◌}
use Rattle.domain.specs.Records.{record_at}
use Rattle.node.specs.declared.Node.{Node}
use Rattle.node_call.specs.Calls.{Call, node_after, node_after_all, answer_to}
use Rattle.node_laws.specs.Apart.{Own, AllElsewhere, keeping}
use Rattle.node_laws.proofs.Laws.{other_domains, own_domain}

pub others_keep :
    (n : Node) (cs : List Call) (i : ℕ) → AllElsewhere n cs i →
    record_at (node_after_all n cs).domains i ≡ record_at n.domains i
others_keep n [] i e = refl
others_keep n (c ∷ rest) i e = others_keep (node_after n c) rest i e.1 ∙ other_domains n c i e.0

pub independent :
    (n : Node) (cs : List Call) (c : Call) (i : ℕ) → AllElsewhere n cs i → Own c i →
    answer_to (node_after_all n cs) c ≡ answer_to (keeping n (node_after_all n cs).kept) c
independent n cs c i e o =
    own_domain (node_after_all n cs) (keeping n (node_after_all n cs).kept) c i o (others_keep n cs i e) refl
