-- Answers of `longest`.
use native.Mathlib.Omega.{arith}
use Rattle.stable_entries.proofs.Picking.{start, turn_longer, turn_other, end}
use Rattle.stable_entries.proofs.pick.longest.Goals as goal
use Rattle.stable_entries.proofs.pick.longest.Goals.{then-most-stable, else-most-stable}

pub loop-n-init : goal.loop-n-init
loop-n-init c = start c.args.state.now c.args.shard

pub loop-n-preserved : goal.loop-n-preserved
loop-n-preserved c =
    let p = c.loop-n.invariant in
    elim c.if-most-stable.branch [
      | then-most-stable w ↦ rw (w.best-is, w.most-is) (turn_longer p (omega (arith, w.if-most-stable.true)))
      | else-most-stable w ↦ rw (w.best-is, w.most-is) (turn_other p (omega (arith, w.if-most-stable.false)))
    ]

pub returns : goal.returns
returns c = end c.loop-n.invariant (omega arith)
