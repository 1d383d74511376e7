-- Its elements one by one are the list.
use Rattle.record_words.proofs.Runs.{run_all}
use Rattle.words_new.proofs.eleven.Goals as goal

pub returns : goal.returns
returns c = run_all 11 c.args.words.now c.requires
