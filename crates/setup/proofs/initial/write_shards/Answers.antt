-- Answers of `write_shards`.
use Prim.Native.Nat.{◌*◌}
use mathlib.Core.Path.{◌≡◌}
use lib.ListN.{length}
use Rattle.model.specs.Setup.{plan_sequencer, plan_members, plan_orderer}
use Rattle.setup.proofs.InitialParts.{zeros-length}
use Rattle.setup.proofs.InitialShards.{planned_shard, none_written, next_written, still_zero}
use borrow.Author.Rules.{rules}
use Rattle.setup.proofs.initial.write_shards.Goals as goal

pub loop-z-init : goal.loop-z-init
loop-z-init c =
    let long : length c.args.state.now ≡ c.args.shards * 2112 = zeros-length c.args.state.now (c.args.shards * 2112) c.requires.0 in
    none_written c.args.shards c.args.plan.now c.args.state.now (long)

pub write_shard-requires : goal.write_shard-requires
unfolding plan_members
write_shard-requires c =
    let long : length c.args.state.now ≡ c.args.shards * 2112 = zeros-length c.args.state.now (c.args.shards * 2112) c.requires.0 in (
      still_zero c.args.shards c.args.plan.now c.args.state.now (long) c.loop-z.z c.loop-z.state c.requires.0 (search rules) c.loop-z.invariant,
      c.requires.1.few c.loop-z.z (search rules),
    )

pub loop-z-preserved : goal.loop-z-preserved
unfolding planned_shard plan_sequencer plan_members plan_orderer
loop-z-preserved c =
    let long : length c.args.state.now ≡ c.args.shards * 2112 = zeros-length c.args.state.now (c.args.shards * 2112) c.requires.0 in
    next_written c.args.shards c.args.plan.now c.args.state.now (long) c.loop-z.z c.loop-z.state
    c.write_shard.new.words (search rules) c.write_shard.ensures (search rules) c.loop-z.invariant
