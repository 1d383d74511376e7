-- A record stored among others. No contract cites this file.
--   placed   what holds of the record stored at its place, and of the others elsewhere, holds of the one at place i
-- Assumes nothing.
use Prim.Native.Nat.{ℕ, ◌<◌}
use mathlib.Core.Path.{◌≡◌, refl, sym}
use mathlib.Core.Bool.{Bool, true, false}
use mathlib.Core.List.{List}
use lib.Dec.{eqb}
use lib.ListN.{length, set as put}
use lib.Seq.{get_or-set_same, get_or-set_other}
use borrow.Author.Tests.{eqb-true, eqb-false}
use Rattle.domain.specs.declared.Domain.{Domain}
use Rattle.domain.specs.Records.{record_at}

pub placed :
    (P : Domain → Type 0) (ds : List Domain) (at i : ℕ) (d : Domain) → i < length ds → (at ≡ i → P d) →
    ((at ≡ i → ⊥) → P (record_at ds i)) → P (record_at (put ds at d) i)
placed P ds at i d h here there = go (eqb at i) refl
  where
    go : (same : Bool) → eqb at i ≡ same → P (record_at (put ds at d) i)
    go true e = rw (eqb-true at i e, get_or-set_same ds i d _ h) (here (eqb-true at i e))
    go false e = rw (get_or-set_other ds at i d _ (λ q. eqb-false at i e (sym q))) (there (eqb-false at i e))
