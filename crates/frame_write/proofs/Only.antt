-- No two results satisfy the promise of F, as `F_only` for each public function F. No contract cites
-- this file.
-- Assumes nothing.
use Prim.Native.Nat.{ℕ}
use mathlib.Core.Path.{◌≡◌}
use mathlib.Core.List.{List}
use Rattle.promise.specs.Only.{OnlyOne}
use Rattle.promise.proofs.Laws.{equation_only}
use Rattle.frame.specs.declared.data_ids.DataIds.{DataIds}
use Rattle.frame.specs.declared.values.Frame.{Frame}
use Rattle.std.specs.Prelude.{Result, ⊤}
use Rattle.frame_write.specs.declared.NoRoom.{NoRoom}
use Rattle.frame_write.specs.Write.{bytes_of, WrittenAt}

pub frame_bytes_only : (ids : DataIds) (f : Frame) → OnlyOne (λ (r : List ℕ). r ≡ bytes_of ids f)
frame_bytes_only ids f = equation_only _

pub write_frame_only :
    (f : Frame) (ids : DataIds) (at : ℕ) (before : List ℕ) →
    OnlyOne (λ (r : Result ⊤ NoRoom × List ℕ). WrittenAt f ids at before r.0 r.1)
write_frame_only f ids at before x y p q =
    let a = equation_only _ x.0 y.0 p.answer q.answer in
    let b = equation_only _ x.1 y.1 p.bytes q.bytes in
    λ i. (a i, b i)
