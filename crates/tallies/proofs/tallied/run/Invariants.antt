-- `tallies::tallied::run` meets its contract. The loop's invariant: what is still to come, together with what was counted, is what the whole replay reports,
-- leaves and tallies.
use Rattle.tallies.proofs.Tallying.{Underway}
use Rattle.tallies.proofs.tallied.run.Given as goal

abbrev pub invariant-loop-tried : goal.invariant-loop-tried
invariant-loop-tried l = Underway l.initial.state l.log l.budget l.state l.at l.tried l.rejected l.tally
