-- `stable_entries::pick::longest` meets its contract.
use Rattle.stable_entries.proofs.Picking.{Picking}
use Rattle.stable_entries.proofs.pick.longest.Given as goal

abbrev pub invariant-loop-n : goal.invariant-loop-n
invariant-loop-n l = Picking l.state l.shard l.best l.most l.n
