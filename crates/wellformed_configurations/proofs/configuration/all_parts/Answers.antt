-- `wellformed_configurations::configuration::all_parts` meets its contract.
use mathlib.Core.Path.{◌∙◌}
use Rattle.wellformed_configurations.proofs.Configurations.{wrong_replicas, right_replicas}
use Rattle.wellformed_configurations.proofs.configuration.all_parts.Goals as goal

pub returns-then-all_replicas : goal.returns-then-all_replicas
returns-then-all_replicas c = c.all_zero.ensures ∙ right_replicas _ _ _ _ _ c.requires.0 c.requires.1 c.if-all_replicas.ensures

pub returns-else-all_replicas : goal.returns-else-all_replicas
returns-else-all_replicas c = c.if-all_replicas.false ∙ wrong_replicas _ _ _ _ _ c.requires.0 c.requires.1 c.if-all_replicas.ensures
