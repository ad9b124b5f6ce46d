-- Answers of `all_alike`.
use native.Mathlib.Omega.{arith}
use mathlib.Core.Path.{refl}
use Rattle.model.specs.Tests.{all_below}
use Rattle.learn_steps.proofs.LearnCompared.{begun, next_entry, next_replica, all_compared, left_short, left_differing}
use Rattle.learn_steps.proofs.learn.all_alike.Goals as goal

pub loop-k-init : goal.loop-k-init
unfolding all_below
loop-k-init c = refl

pub loop-p-init : goal.loop-p-init
loop-p-init c = begun c.args.state.now _ _ _ _ c.requires c.loop-k.k c.loop-k-test.true c.agreeing-agreed.ensures

pub loop-p-preserved : goal.loop-p-preserved
loop-p-preserved c = next_entry c.args.state.now _ _ _ c.loop-p.p c.loop-p-test.true c.loop-p.invariant c.if-state-entries.false

pub loop-k-preserved : goal.loop-k-preserved
loop-k-preserved c =
    next_replica c.args.state.now _ _ _ _ c.loop-k.k c.loop-p.p c.loop-k.invariant c.if-state-q.false c.loop-p-test.false c.loop-p.invariant

pub returns-then-state-q : goal.returns-then-state-q
returns-then-state-q c = left_short c.args.state.now _ _ _ _ c.loop-k.k c.loop-k-test.true c.if-state-q.true

pub returns-then-state-entries : goal.returns-then-state-entries
returns-then-state-entries c =
    left_differing c.args.state.now _ _ _ _ c.loop-k.k c.loop-p.p c.loop-k-test.true c.loop-p-test.true c.if-state-entries.true

pub returns-after-loop-k : goal.returns-after-loop-k
returns-after-loop-k c = all_compared c.args.state.now _ _ _ _ c.loop-k.k (omega arith) c.loop-k.invariant
