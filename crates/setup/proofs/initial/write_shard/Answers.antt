-- Answers of `write_shard`.
use native.Mathlib.Omega.{arith}
use Rattle.setup.proofs.InitialParts.{head_started, next_started, all_started}
use borrow.Author.Rules.{rules}
use Rattle.setup.proofs.initial.write_shard.Goals as goal

pub loop-k-init : goal.loop-k-init
loop-k-init c = head_started c.args.sequencer c.args.members c.args.orderer c.args.words.now c.requires.0

pub loop-k-preserved : goal.loop-k-preserved
loop-k-preserved c = next_started c.args.sequencer c.args.members c.args.orderer c.loop-k.k c.loop-k.words (search rules) c.requires.1 c.loop-k.invariant

pub returns : goal.returns
returns c =
    let a = c.args in
    all_started a.sequencer a.members a.orderer c.loop-k.k c.loop-k.words (omega arith) c.loop-k.invariant
