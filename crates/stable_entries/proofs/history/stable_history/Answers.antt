-- `stable_entries::history::stable_history` meets its contract.
use Rattle.stable_entries.proofs.Longest.{picked}
use Rattle.stable_entries.proofs.history.stable_history.Goals as goal

pub stable_prefix-requires : goal.stable_prefix-requires
stable_prefix-requires c = picked c.requires c.longest.ensures
