-- `alike_words::agreeing` meets its contract. The loop's invariant: what is told from the turn t on is told of all.
use Rattle.alike_words.proofs.EightAtOnce.{Told}
use Rattle.alike_words.proofs.agreeing.Given as goal

abbrev pub invariant-loop-t : goal.invariant-loop-t
invariant-loop-t l = Told l.a l.b l.t
