-- `word_outputs::tally_words::tally_in` meets its contract.
use lib.ListN.{get_or}
use Rattle.word_outputs.specs.TallyWords.{tally_in}
use Rattle.word_outputs.proofs.tally_words.tally_in.Goals as goal

pub returns : goal.returns
unfolding tally_in
returns c = λ i. record { hosts = c.copy_from_slice.ensures.after i; none = get_or c.args.out.now 16 0 }
