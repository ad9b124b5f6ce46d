-- `word_outputs::tally_words::put_tally` meets its contract.
use Rattle.word_outputs.proofs.TallyWords.{stored}
use Rattle.word_outputs.proofs.tally_words.put_tally.Goals as goal

pub returns : goal.returns
returns c = stored c.args.out.now c.requires.0 c.args.tally c.requires.1 c.copy_from_slice.ensures.after
