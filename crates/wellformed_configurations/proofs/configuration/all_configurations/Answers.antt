-- Answers of `all_configurations`.
use native.Mathlib.Omega.{arith}
use mathlib.Core.Path.{refl}
use Rattle.model.specs.Tests.{all_below}
use Rattle.model.proofs.Ranges.{more, fails}
use Rattle.wellformed_configurations.proofs.Configurations.{has_before}
use Rattle.wellformed_configurations.proofs.configuration.all_configurations.Goals as goal

pub loop-j-init : goal.loop-j-init
unfolding all_below
loop-j-init c = refl

pub is_configuration_of-requires : goal.is_configuration_of-requires
is_configuration_of-requires c = has_before _ _ _ _ (record { shard = c.requires; configuration = omega arith }) c.loop-j.invariant

pub returns-then-not-is_configuration_of : goal.returns-then-not-is_configuration_of
returns-then-not-is_configuration_of c = fails 8 c.loop-j.j _ (omega arith) c.if-not-is_configuration_of.ensures

pub loop-j-preserved : goal.loop-j-preserved
loop-j-preserved c = more c.loop-j.j _ c.loop-j.invariant c.if-not-is_configuration_of.ensures
