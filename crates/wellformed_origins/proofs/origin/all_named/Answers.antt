-- `wellformed_origins::origin::all_named` meets its contract.
use Rattle.std.proofs.Common.{rules, tests}
use Rattle.model.proofs.Fields.{origin_word_lem}
use Rattle.model.proofs.RangeCalls.{all_in_range}
use Rattle.wellformed_origins.proofs.origin.all_named.Goals as goal

pub returns : goal.returns
returns c = all_in_range _ _ _ _ _ c.all.ensures.ran (λ x b q k. search (rules, tests, origin_word_lem))
