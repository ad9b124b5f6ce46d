-- `write_number` meets its contract. The loop's invariant is `Written`; the measure is what is left of the number. Assumes nothing.
use Rattle.numbers.proofs.NumberWrites.{Written}
use Rattle.numbers.proofs.write.write_number.Given as goal

abbrev pub invariant-loop-rest : goal.invariant-loop-rest
invariant-loop-rest l = Written l.initial.out l.n l.out l.rest

abbrev pub decreases-loop-rest : goal.decreases-loop-rest
decreases-loop-rest l = l.rest
