-- `trial_step::block::one_of` meets its contract: the block is what is behind its place, also where the item ends
-- before. Assumes nothing.
use Prim.Native.Nat.{ℕ, ◌+◌, ◌-◌, ◌*◌, ◌<◌, min}
use mathlib.Core.Path.{◌≡◌, ap, ◌∙◌}
use mathlib.Core.List.{List}
use native.Mathlib.Omega.{arith}
use lib.ListN.{length, take, drop, length-drop}
use lib.Seq.{take_all}
use borrow.Author.Tests.{lt-ltb}
use Rattle.settings.specs.declared.domain_settings.DomainSettings.{DomainSettings}
use Rattle.trial_step.specs.DomainBlock.{domain_of, domain_at}
use Rattle.trial_step.specs.Block.{one_of}
use Rattle.trial_step.proofs.queue.Laws.{drop_min}
use Rattle.trial_step.proofs.block.one_of.Goals as goal

block_is :
    (blocks d : ℕ) (item : List ℕ) {start : ℕ} {one : DomainSettings} → d < blocks →
    start ≡ min (4 + 128 * d) (length item) → one ≡ domain_of (take (length item - start) (drop start item)) → one ≡ one_of blocks item d
unfolding domain_at
block_is blocks d item {start} h s e =
    rw (lt-ltb d blocks h)
    (e ∙ ap domain_of (take_all (length item - start) (drop start item) (omega (arith, length-drop start item)))
    ∙ ap (λ (k : ℕ). domain_of (drop k item)) s ∙ ap domain_of (drop_min (4 + 128 * d) item))

pub returns-then-d-blocks : goal.returns-then-d-blocks
returns-then-d-blocks c =
    block_is c.args.blocks c.args.d c.args.item.now c.if-d-blocks.true c.min.ensures c.domain_of.ensures
