-- `histories::trace::put_sources` meets its contract. The loop's invariant: the hosts found so far are the first of the trace.
use Rattle.histories.proofs.Traces.{Walked}
use Rattle.histories.proofs.trace.put_sources.Given as goal

abbrev pub invariant-loop-j : goal.invariant-loop-j
invariant-loop-j l = Walked l.state l.at.z l.at.j l.host l.j l.g l.hosts.items
