-- `install_steps::next::make_pending` meets its contract. The loop's invariant: the replicas before k are pending.
use mathlib.Core.Path.{◌≡◌}
use Rattle.install_steps.specs.Next.{pending_from}
use Rattle.install_steps.proofs.next.make_pending.Given as goal

abbrev pub invariant-loop-k : goal.invariant-loop-k
invariant-loop-k l = l.state ≡ pending_from l.initial.state l.first l.k
