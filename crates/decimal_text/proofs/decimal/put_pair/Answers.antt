-- `decimal_text::decimal::put_pair` meets its contract.
use Rattle.decimal_text.proofs.LastDigits.{pair_stored}
use Rattle.decimal_text.proofs.decimal.put_pair.Goals as goal

pub returns : goal.returns
returns c = pair_stored _ _ _ c.requires.small
