-- A fresh node. No contract cites this file.
--   new_good   what `new` gives is good: the node of good settings, and the one beside a refusal
-- Assumes nothing.
use Rattle.std.specs.Prelude.{None, ⊤}
use Prim.Native.Nat.{ℕ, zero, suc, ◌+◌, ◌<◌}
use mathlib.Core.Path.{◌≡◌, refl, ◌∙◌, ap}
use mathlib.Core.Bool.{true, false, ◌&&◌}
use mathlib.Core.List.{List, [], ◌∷◌}
use native.Mathlib.Omega.{arith}
use borrow.Author.Tests.{leb-true, eqb-true}
use lib.Dec.{leb, eqb}
use lib.ListN.{length, replicate}
use Rattle.settings.specs.Node.{places}
use Rattle.promise.proofs.Tests.{either_told, both}
use Rattle.clock.specs.declared.reading.VirtualLocalTime.{VirtualLocalTime}
use Rattle.settings.specs.declared.domain_settings.DomainSettings.{DomainSettings}
use Rattle.settings.specs.declared.domain_settings.Role.{Role}
use Rattle.settings.specs.declared.domain_settings.Role.TheVariants.{Absent, Slave, Master}
use Rattle.settings.specs.declared.node_settings.NodeSettings.{NodeSettings}
use Rattle.settings.specs.Ranges.{within, is_good}
use Rattle.settings.specs.Domain.{absent_held, held_as}
use Rattle.settings.specs.Node.{all_good}
use Rattle.settings.proofs.ranges.Laws.{held_good}
use Rattle.settings.proofs.Laws.{held_twice}
use Rattle.domain.specs.declared.Domain.{Domain}
use Rattle.domain.specs.declared.LastSync.TheVariants.{Unknown}
use Rattle.domain.specs.declared.Sending.TheVariants.{Never}
use Rattle.domain.specs.Fresh.{fresh_of}
use Rattle.domain.specs.Records.{record_at}
use Rattle.node.specs.New.{records_of, fresh_node, new_as, new_of}
use Rattle.node_laws.specs.Reachable.{are_ids, all_ids, IsSettings}
use Rattle.node_laws.specs.Good.{RoleGood, RecordGood, Good}
use Rattle.refusal.specs.Numbers.{Outcome}

-- ---- a fresh record, by what is held of its settings

abbrev fresh_with : ℕ → DomainSettings → Domain
fresh_with number held =
    record {
      settings = held;
      base = None;
      pairing = None;
      last = Unknown;
      sending = Never;
      number = number;
      user = record { 0 = 0; 1 = 0; 2 = 0 };
      sgw = false;
      leap = None;
      updates = 0;
      next_counter = 0;
    }

fresh_role :
    (r : Role) (s : DomainSettings) (number : ℕ) (kept : VirtualLocalTime) →
    RoleGood (held_as r s).role kept (fresh_with number (held_as r s))
fresh_role Absent s number kept = refl
fresh_role Slave s number kept =
    record {
      base = tt;
      last = tt;
      pair = tt;
      order = tt;
      first = tt;
      blank = (refl, refl, refl, refl);
      run = tt;
      never = refl;
      next = refl;
    }
fresh_role Master s number kept =
    record {
      base = tt;
      sent = refl;
      blank = (refl, refl, refl, refl);
      waiting = refl;
      unknown = refl;
      stored = (refl, refl, refl);
    }

ids_held : (r : Role) (s : DomainSettings) → are_ids s.ids ≡ true → are_ids (held_as r s).ids ≡ true
ids_held Absent s e = refl
ids_held Slave s e = e
ids_held Master s e = e

fresh_good :
    (number i : ℕ) (s : DomainSettings) (kept : VirtualLocalTime) → number ≡ i → is_good s ≡ true →
    are_ids s.ids ≡ true → RecordGood i kept (fresh_of number s)
fresh_good number i s kept e good are =
    record {
      number = e;
      settings = held_good s ∙ good;
      settings_held = held_twice s;
      ids = ids_held s.role s are;
      updates = omega arith;
      role = fresh_role s.role s number kept;
    }

-- ---- the fresh records, from a number on

records_length : (number : ℕ) (l : List DomainSettings) → length (records_of number l) ≡ length l
records_length number [] = refl
records_length number (s ∷ rest) = ap suc (records_length (number + 1) rest)

records_good :
    (number : ℕ) (l : List DomainSettings) (kept : VirtualLocalTime) → all_good l ≡ true → all_ids l ≡ true →
    (at i : ℕ) → at < length l → number + at ≡ i → RecordGood i kept (record_at (records_of number l) at)
records_good number [] kept good are at i h e = absurd (omega (arith, h))
records_good number (s ∷ rest) kept good are zero i h e =
    fresh_good number i s kept (omega arith) (both (is_good s) (all_good rest) good).0
    (both (are_ids s.ids) (all_ids rest) are).0
records_good number (s ∷ rest) kept good are (suc at) i h e =
    records_good (number + 1) rest kept (both (is_good s) (all_good rest) good).1
    (both (are_ids s.ids) (all_ids rest) are).1 at i (omega (arith, h)) (omega arith)

-- ---- the fresh node

node_good :
    (syncs : ℕ) (l : List DomainSettings) → within 1 16 syncs ≡ true → all_good l ≡ true →
    (eqb (length l) places && all_ids l) ≡ true → Good (fresh_node syncs l)
node_good syncs l w good is =
    let h = both (leb 1 syncs) (leb syncs 16) w in
    let told = both (eqb (length l) places) (all_ids l) is in
    let sixteen : length l ≡ places = eqb-true _ _ told.0 in
    record {
      sixteen = records_length 0 l ∙ sixteen;
      kept = omega arith;
      syncs = (leb-true _ _ h.0, leb-true _ _ h.1);
      round = omega arith;
      records = λ i lt. records_good 0 l _ good told.1 i i (omega arith) (omega arith);
    }

pub new_good : (s : NodeSettings) → IsSettings s → Good (new_of s).node
new_good s n =
    either_told (λ (v : Outcome ⊤). Good (new_as v s).node)
    (within 1 16 s.syncs_per_cycle && all_good s.domains)
    (λ e.
    let h = both (within 1 16 s.syncs_per_cycle) (all_good s.domains) e in
    node_good s.syncs_per_cycle s.domains h.0 h.1 n)
    (λ e. node_good 1 (replicate places absent_held) refl refl refl)
