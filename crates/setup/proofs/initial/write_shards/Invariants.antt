-- `setup::initial::write_shards` meets its contract.
use Rattle.setup.proofs.InitialShards.{Written}
use Rattle.setup.proofs.initial.write_shards.Given as goal

abbrev pub invariant-loop-z : goal.invariant-loop-z
invariant-loop-z l = Written l.shards l.plan l.initial.state l.z l.state
