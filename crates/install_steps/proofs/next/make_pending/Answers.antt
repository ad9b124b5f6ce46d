-- Answers of `make_pending`.
use native.Mathlib.Omega.{arith}
use mathlib.Core.Path.{refl}
use Rattle.install_steps.specs.Next.{pending_from}
use Rattle.install_steps.proofs.PendingStores.{pending_stored}
use Rattle.install_steps.proofs.next.make_pending.Goals as goal

pub loop-k-init : goal.loop-k-init
unfolding pending_from
loop-k-init c = refl

pub loop-k-preserved : goal.loop-k-preserved
loop-k-preserved c = rw c.loop-k.invariant (pending_stored c.requires c.loop-k.k (omega arith))
