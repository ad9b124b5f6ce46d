-- `types::kind::Kind::fourths` meets its contract.
use Rattle.std.proofs.Common.{arith}
use Rattle.types.proofs.KindRules.{known_below, fourth_bit}
use Rattle.types.proofs.kind.Kind.fourths.Goals as goal

pub overflow_shr-result : goal.overflow_shr-result
overflow_shr-result c = omega (arith, known_below c.args.number c.requires)

pub returns : goal.returns
returns c = fourth_bit c.args.number c.requires
