-- Its place and its words are known.
use Rattle.std.proofs.Common.{◌∙◌}
use Rattle.node_words.proofs.puts.put_sent.Goals as goal

pub returns : goal.returns
returns c = c.put_three.ensures ∙ rw (c.state_of.ensures, c.state_words-list.ensures)
