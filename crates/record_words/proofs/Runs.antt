-- Elements of a list one by one are a part of it. No contract cites this file.
-- Assumes nothing.
use Prim.Native.Nat.{ℕ, zero, suc, ◌+◌, ◌≤◌}
use mathlib.Core.Path.{◌≡◌, refl, sym, ap, ◌∙◌}
use mathlib.Core.List.{List, [], ◌∷◌}
use native.Mathlib.Omega.{arith}
use lib.ListN.{length, get_or, take, drop}
use lib.Seq.{drop-cons, take_all}

abbrev pub run : (k : ℕ) → List ℕ → (at : ℕ) → List ℕ
run zero l at = []
run (suc k) l at = get_or l at 0 ∷ run k l (suc at)

pub run_is : (k : ℕ) (l : List ℕ) (at : ℕ) → at + k ≤ length l → run k l at ≡ take k (drop at l)
run_is zero l at h = refl
run_is (suc k) l at h =
    ap (λ (r : List ℕ). get_or l at 0 ∷ r) (run_is k l (suc at) (omega arith))
    ∙ ap (take (suc k)) (sym (drop-cons l at 0 (omega arith)))

-- ---- all elements of a list of k
pub run_all : (k : ℕ) (l : List ℕ) → length l ≡ k → run k l 0 ≡ l
run_all k l e = run_is k l 0 (omega arith) ∙ take_all k l (omega arith)
