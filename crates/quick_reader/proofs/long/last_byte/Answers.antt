-- `quick_reader::long::last_byte` meets its contract: from the entry's last bytes back, each is the last one or leaves it to those after it. Assumes nothing.
use Rattle.quick_reader.specs.Long.{entry_bytes}
use Rattle.quick_reader.proofs.Groups.{byte_one, byte_more}
use Rattle.quick_reader.proofs.long.last_byte.Goals as goal

pub returns : goal.returns
unfolding entry_bytes
returns c =
    byte_more _ _
    (byte_more _ _ (byte_more _ _ (byte_more _ _ (byte_one _ c.requires.1) c.last-d.ensures) c.last-c.ensures) c.last-b.ensures)
    c.last.ensures
