use Rattle.std.specs.Io.KnownBytes.{Keeps}
use Rattle.penkwadar.proofs.output.write_some.Given as goal

-- a failed write puts nothing
abbrev pub invariant-loop : goal.invariant-loop
invariant-loop g l = Keeps (g.W.Write.contents l.initial.to) (g.W.Write.contents l.to)
