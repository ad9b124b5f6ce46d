-- `wellformed::sequencer::all_differ` meets its contract.
use Rattle.std.proofs.Common.{rules, tests}
use Rattle.model.specs.WellFormed.{all_differ}
use Rattle.model.proofs.RangeCalls.{all_in_range}
use Rattle.wellformed.proofs.sequencer.all_differ.Goals as goal

pub returns : goal.returns
unfolding all_differ
returns c = all_in_range _ _ _ _ _ c.all.ensures.ran (λ x b q k. search (rules, tests))
