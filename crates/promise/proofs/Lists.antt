-- Laws of lists that the kit's libraries do not have, which proofs share. No contract cites this file.
--   get_d_any         what stands at a place that is there does not depend on the stand-in
--   take_replicate   the first of equal elements
-- Assumes nothing.
use Prim.Native.Nat.{ℕ, zero, suc, ◌≤◌, ◌<◌}
use mathlib.Core.Path.{◌≡◌, refl, ap}
use mathlib.Core.List.{List, [], ◌∷◌}
use native.Mathlib.Omega.{arith}
use lib.ListN.{length, get_or, take, replicate}

pub get_d_any : {A : Type 0} (l : List A) (i : ℕ) (d e : A) → i < length l → get_or l i d ≡ get_or l i e
get_d_any [] i d e h = absurd (omega (arith, h))
get_d_any (x ∷ xs) zero d e h = refl
get_d_any (x ∷ xs) (suc i) d e h = get_d_any xs i d e (omega (arith, h))

pub take_replicate : (n m a : ℕ) → n ≤ m → take n (replicate m a) ≡ replicate n a
take_replicate zero m a h = refl
take_replicate (suc n) zero a h = absurd (omega arith)
take_replicate (suc n) (suc m) a h = ap (λ (l : List ℕ). a ∷ l) (take_replicate n m a (omega arith))
