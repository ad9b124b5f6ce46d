-- `read_more` meets its contract. The loop's invariant is `Turn`: what was read and what is left give the number.
use Rattle.numbers.proofs.NumberTurns.{Turn}
use Rattle.numbers.proofs.read.read_more.Given as goal

abbrev pub invariant-loop-n : goal.invariant-loop-n
invariant-loop-n l = Turn l.log l.low l.v l.w l.n
