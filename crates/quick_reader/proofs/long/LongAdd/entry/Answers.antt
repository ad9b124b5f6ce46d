-- `quick_reader::long::LongAdd::entry` meets its contract: from the entry's last bytes back, each is joined to the number of those after it. Assumes nothing.
use mathlib.Core.Path.{◌∙◌}
use Rattle.quick_reader.specs.Long.{entry_bytes, long_entry}
use Rattle.quick_reader.proofs.Groups.{value_one, value_more}
use Rattle.quick_reader.proofs.LongAdds.{long_last}
use Rattle.quick_reader.proofs.long.LongAdd.entry.Goals as goal

pub returns : goal.returns
unfolding long_entry entry_bytes
returns c =
    let d = value_more _ _ (c.from.ensures ∙ value_one _ (long_last _ _ c.args.self.now.is_long_add)) c.joined-d.ensures in
    value_more _ _ (value_more _ _ (value_more _ _ d c.joined-c.ensures) c.joined-b.ensures) c.joined.ensures
