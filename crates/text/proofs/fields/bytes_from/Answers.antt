-- `text::fields::bytes_from` meets its contract: a turn is `fields_put`. Assumes nothing.
use Prim.Native.Nat.{ℕ}
use native.Mathlib.Omega.{arith}
use lib.ListN.{get_or, length-set}
use Rattle.text.proofs.fields.Laws.{fields_put}
use Rattle.text.proofs.fields.bytes_from.Goals as goal

pub loop-i-preserved : goal.loop-i-preserved
loop-i-preserved g c =
    let bytes = c.args.bytes.now in (
      simp length-set c.loop-i.invariant.0,
      fields_put (λ (p : ℕ). get_or bytes p 0) 1 c.loop-i.list c.loop-i.i c.args.at _ _
          (omega arith) (omega arith) c.byte_at.ensures c.loop-i.invariant.1,
    )
