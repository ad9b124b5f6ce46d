-- `transcript::steps::append_steps` meets its contract: the run at each turn, and what was appended of its lines.
use Rattle.transcript.proofs.RunLines.{Printing}
use Rattle.transcript.proofs.steps.append_steps.Given as goal

abbrev pub invariant-loop-tried : goal.invariant-loop-tried
invariant-loop-tried l = Printing l.initial.state l.log l.fn.text l.state l.text l.at l.tried l.rejected
