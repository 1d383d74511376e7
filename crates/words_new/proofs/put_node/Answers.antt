-- The first two words, and behind them what `put_records` ensures.
use Rattle.std.proofs.Common.{ℕ, ◌≡◌, ◌≤◌, ap, ◌∙◌, List, [], ◌∷◌, ◌++◌, length, take, set, arith}
use Rattle.node_words.specs.Node.{head_word}
use Rattle.words_new.specs.Made.{made_syncs}
use Rattle.words_new.proofs.put_node.Goals as goal

headed :
    (ws rest all : List ℕ) (a b w : ℕ) → 2 ≤ length ws → b ≡ w → all ≡ take 2 (set (set ws 0 a) 1 b) ++ rest →
    all ≡ a ∷ w ∷ rest
headed [] rest all a b w h e p = absurd (omega arith)
headed (x ∷ []) rest all a b w h e p = absurd (omega arith)
headed (x ∷ y ∷ ws) rest all a b w h e p = p ∙ ap (λ (n : ℕ). a ∷ n ∷ rest) e

pub returns : goal.returns
returns c =
    headed c.args.node.now _ _ 0 c.packed.result (head_word (made_syncs c.args.taken c.args.given.now) 0) (omega arith)
    (rw (c.packed.ensures, c.made_syncs.ensures)) c.put_records.ensures
