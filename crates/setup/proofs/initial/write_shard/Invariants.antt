-- `setup::initial::write_shard` meets its contract.
use Rattle.setup.proofs.InitialParts.{Started}
use Rattle.setup.proofs.initial.write_shard.Given as goal

abbrev pub invariant-loop-k : goal.invariant-loop-k
invariant-loop-k l = Started l.sequencer l.members l.orderer l.k l.words
