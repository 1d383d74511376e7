-- The two halves, each filled.
use Rattle.std.proofs.Common.{ℕ, ◌≡◌, ◌≤◌, ◌-◌, ap, ◌∙◌, List, ◌++◌, length, drop, length-append, append-nil, arith}
use lib.ListN.{drop_of_length-le}
use lib.Seq.{take_at, drop_at}
use Rattle.node_words.specs.Words.{with_part}
use Rattle.words_new.proofs.put_record.Goals as goal

halves : (a b w : List ℕ) → length a ≡ 11 → with_part 11 (length (a ++ w) - 11) (a ++ w) b ≡ a ++ b
halves a b w e =
    let n = length (a ++ w) - 11 in
    let few : length w ≤ n = omega (arith, length-append a w) in
    ap (λ (l : List ℕ). l ++ (b ++ drop n (drop 11 (a ++ w)))) (take_at a w 11 e)
    ∙ ap (λ (l : List ℕ). a ++ (b ++ drop n l)) (drop_at a w 11 e)
    ∙ ap (λ (l : List ℕ). a ++ (b ++ l)) (drop_of_length-le w few)
    ∙ ap (λ (l : List ℕ). a ++ l) (append-nil b)

pub returns : goal.returns
returns c =
    let first = c.put_eleven.new.words in
    let second = c.put_eleven-2.new.words in
    halves first second (drop 11 c.args.words.now) (ap length c.put_eleven.ensures ∙ omega arith)
    ∙ ap (λ (l : List ℕ). l ++ second) c.put_eleven.ensures
    ∙ ap (λ (l : List ℕ). c.args.held ++ l) c.put_eleven-2.ensures
