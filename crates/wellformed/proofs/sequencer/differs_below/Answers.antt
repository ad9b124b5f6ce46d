-- `wellformed::sequencer::differs_below` meets its contract.
use Rattle.std.proofs.Common.{rules, tests}
use Rattle.model.proofs.RangeCalls.{all_in_range}
use Rattle.wellformed.proofs.sequencer.differs_below.Goals as goal

pub returns : goal.returns
returns c = all_in_range _ _ _ _ _ c.all.ensures.ran (λ x b q k. search (rules, tests))
