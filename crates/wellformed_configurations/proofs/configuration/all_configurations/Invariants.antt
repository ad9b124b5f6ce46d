-- `wellformed_configurations::configuration::all_configurations` meets its contract. The loop's invariant: the configurations before j are well-formed.
use mathlib.Core.Path.{◌≡◌}
use mathlib.Core.Bool.{true}
use Rattle.model.specs.Tests.{all_below}
use Rattle.model.specs.WellFormed.{is_configuration_of}
use Rattle.wellformed_configurations.proofs.configuration.all_configurations.Given as goal

abbrev pub invariant-loop-j : goal.invariant-loop-j
invariant-loop-j l = true ≡ all_below l.j (is_configuration_of l.state l.shards l.z)
