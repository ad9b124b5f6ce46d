-- `replay::run` meets its contract. Each turn tries one step.
use Rattle.replay.proofs.Running.{Running}
use Rattle.replay.proofs.run.Given as goal

abbrev pub invariant-loop-tried : goal.invariant-loop-tried
invariant-loop-tried l = Running l.initial.state l.log l.budget l.state l.at l.tried l.rejected
