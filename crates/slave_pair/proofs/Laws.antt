-- Laws of a FUP and its pair. No contract cites this file.
--   by_joined     what a FUP finds: 7, 8, 9, or its pair; `Joins` is told where it finds it
--   joins         a FUP that meets each test (`Joins`) finds its pair
-- Assumes nothing.
use Rattle.std.specs.Prelude.{Err, None, Ok, Option, Some}
use Prim.Native.Nat.{ℕ, ◌≤◌}
use mathlib.Core.Path.{◌≡◌, refl}
use borrow.Author.Tests.{ltb-false, leb-true, eqb-true, not-false, le-ltb, le-leb, eq-eqb}
use Rattle.promise.proofs.Tests.{either_told}
use Rattle.clock.specs.declared.reading.VirtualLocalTime.{VirtualLocalTime}
use Rattle.clock.specs.Reading.{span_of}
use Rattle.frame.specs.declared.values.Fup.{Fup}
use Rattle.refusal.specs.declared.Refusal.TheVariants.{NoOpenPair, FupCounter, Nanoseconds}
use Rattle.domain.specs.declared.Pair.{Pair}
use Rattle.slave_pair.specs.Join.{is_old, is_other, is_above, joined_of}
use Rattle.refusal.specs.Numbers.{Outcome}

pub record Joins (f : ℕ) (pairing : Option Pair) (t : VirtualLocalTime) (fup : Fup) (p : Pair) : Type 0 where
  pub held : pairing ≡ Some p
  pub young : span_of p.at t ≤ f
  pub same : fup.counter ≡ p.counter
  pub in_range : fup.nanoseconds ≤ 999999999

pub by_joined :
    (P : Outcome Pair → Type 0) (f : ℕ) (pairing : Option Pair) (t : VirtualLocalTime) (fup : Fup) →
    P (Err NoOpenPair) → P (Err FupCounter) → P (Err Nanoseconds) →
    ((p : Pair) → Joins f pairing t fup p → P (Ok p)) → P (joined_of f pairing t fup)
by_joined P f None t fup no-pair other above with = no-pair
by_joined P f (Some p) t fup no-pair other above with =
    either_told P (is_old f p t) (λ old. no-pair)
    (λ young.
    either_told P (is_other p fup) (λ e. other)
    (λ same.
    either_told P (is_above fup) (λ e. above)
    (λ in_range.
    with p
    (record {
      held = refl;
      young = ltb-false _ _ young;
      same = eqb-true _ _ (not-false _ same);
      in_range = leb-true _ _ (not-false _ in_range);
    }))))

pub joins :
    (f : ℕ) (pairing : Option Pair) (t : VirtualLocalTime) (fup : Fup) (p : Pair) → Joins f pairing t fup p →
    joined_of f pairing t fup ≡ Ok p
joins f pairing t fup p j =
    rw (j.held, le-ltb _ _ j.young, eq-eqb _ _ j.same, le-leb _ _ j.in_range) refl
