-- The frames in the line of a main cycle: none where the count is 0, and otherwise one. Assumes nothing.
use Prim.Native.Nat.{ℕ, zero, suc}
use mathlib.Core.Path.{◌≡◌, refl, sym, ap}
use mathlib.Core.List.{List, [], ◌++◌}
use Rattle.text.specs.Text.{hex_of}
use Rattle.text.specs.Lines.{blank}
use Rattle.bench_step.specs.BenchLine.{frames_text}

pub no_frame : (sent : List ℕ) {count : ℕ} → count ≡ 0 → [] ≡ frames_text count sent
no_frame sent e = ap (λ n. frames_text n sent) (sym e)

pub one_frame : (sent : List ℕ) (count : ℕ) → (count ≡ 0 → ⊥) → blank ++ hex_of sent ≡ frames_text count sent
one_frame sent zero some = absurd (some refl)
one_frame sent (suc count) some = refl
