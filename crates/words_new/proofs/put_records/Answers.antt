-- The words passed, and those of the records that are left, are all of them.
use Rattle.std.proofs.Common.{ℕ, ◌≡◌, ◌-◌, ◌+◌, ap, ◌∙◌, List, ◌++◌, length, take, drop, replicate, length-append, length-drop, arith}
use lib.Seq.{length-take-le}
use Rattle.settings.specs.Node.{places}
use Rattle.domain.specs.Fresh.{fresh_of}
use Rattle.node_words.specs.Words.{settings_at, with_part}
use Rattle.node_words.specs.Node.{record_words}
use Rattle.words_new.specs.Made.{made_at}
use Rattle.words_new.proofs.Left.{left_words, words_on, words_all}
use Rattle.words_new.proofs.put_records.Goals as goal

pub loop-d-preserved : goal.loop-d-preserved
loop-d-preserved c =
    let f = made_at c.args.taken c.args.given.now in
    let node = c.loop-d.node in
    let d = c.loop-d.d in
    let part = c.put_record.new.words in
    let n = settings_at d + 22 - settings_at d in
    let size : n ≡ 22 = omega arith in
    let rest = drop n (drop (settings_at d) node) in
    let filled : part ≡ record_words (fresh_of d (f d)) =
    c.put_record.ensures ∙ ap (λ (l : List ℕ). l ++ replicate 11 0) c.held_at-held.ensures in
    let many : length part ≡ 22 = ap length filled in (
      omega (
        arith,
        many,
        length-append (take (settings_at d) node) (part ++ rest),
        length-append part rest,
        length-take-le (settings_at d) node (omega arith),
        length-drop n (drop (settings_at d) node),
        length-drop (settings_at d) node,
      ),
      ap (λ (k : ℕ). take (settings_at (d + 1)) (with_part (settings_at d) k node part) ++ left_words places f (d + 1)) size
          ∙ words_on places f d node _ c.loop-d.invariant.1 part (omega arith) (omega arith) filled,
    )

pub returns : goal.returns
returns c =
    words_all places (made_at c.args.taken c.args.given.now) c.loop-d.d c.loop-d.node _ c.loop-d.invariant.1 (omega arith)
    (omega arith)
