-- `learn_steps::learn::all_alike` meets its contract. The loops' invariants: the replicas before k are alike, and the entries before p.
use mathlib.Core.Path.{◌≡◌}
use mathlib.Core.Bool.{true}
use Rattle.model.specs.Tests.{all_below}
use Rattle.learn_steps.proofs.LearnCompared.{Entries, is_alike}
use Rattle.learn_steps.proofs.learn.all_alike.Given as goal

abbrev pub invariant-loop-p : goal.invariant-loop-p
invariant-loop-p l = Entries l.state l.n l.own l.q l.p

abbrev pub invariant-loop-k : goal.invariant-loop-k
invariant-loop-k l = true ≡ all_below l.k (is_alike l.state l.first l.size l.n l.own)
