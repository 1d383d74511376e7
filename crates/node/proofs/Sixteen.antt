-- A node that a function is given has sixteen records: what the layout of its type says.
--   sixteen      so many
--   looked_up    the record that the code finds at a place of a domain is `record_at`'s
--   node_size_lem    and a node has 3,216 bytes on the machine that the proofs speak of
-- Assumes nothing.
use Prim.Native.Nat.{ℕ, ◌<◌}
use mathlib.Core.Path.{◌≡◌, refl}
use mathlib.Core.List.{List}
use native.Mathlib.Omega.{arith}
use lib.ListN.{length, get_or}
use mir.Val.{Val}
use prog.Memory.{size}
use denote.Laws.{Is}
use denote.Struct.Laws as laws
use Rattle.domain.specs.declared.Domain.{Domain}
use Rattle.promise.proofs.Lists.{get_d_any}
use Rattle.settings.specs.Node.{places}
use Rattle.domain.specs.Records.{record_at}
use Rattle.node.specs.declared.Node.{Node}
use Rattle.node.specs.contracts.Node as declared
use Rattle.node.proofs.Node.TheLaws as declared_laws

pub sixteen : (n : Node) (vs : List Val) → Is declared.the_row n vs → length n.domains ≡ places
sixteen n vs p =
    (laws.owed declared.the_type declared_laws.the_laws n vs p).0.1.0.1

pub looked_up :
    (n : Node) (vs : List Val) → Is declared.the_row n vs → (at : ℕ) (other : Domain) → at < places →
    get_or n.domains at other ≡ record_at n.domains at
looked_up n vs p at other h = get_d_any n.domains at other _ (omega (arith, h, sixteen n vs p))

pub node_size_lem : size declared_laws.mir ≡ 3216
node_size_lem = refl
