-- `is_taken` says which node and which number.
use Rattle.std.proofs.Common.{sym, ◌∙◌, true, false}
use Rattle.words_new.proofs.Judged.{judged_number, judged_words}
use Rattle.words_new.proofs.new_in.Goals as goal

pub returns-then-taken : goal.returns-then-taken
returns-then-taken c = record {
  number = judged_number c.args.given.now true (sym c.if-taken.true ∙ c.is_taken-taken.ensures);
  words_after =
      c.put_node.ensures ∙ judged_words c.args.given.now c.is_taken-taken.result c.is_taken-taken.ensures;
}

pub returns-else-taken : goal.returns-else-taken
returns-else-taken c = record {
  number =
      c.number.ensures ∙ judged_number c.args.given.now false (sym c.if-taken.false ∙ c.is_taken-taken.ensures);
  words_after =
      c.put_node.ensures ∙ judged_words c.args.given.now c.is_taken-taken.result c.is_taken-taken.ensures;
}
