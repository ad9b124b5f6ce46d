-- `wellformed_configurations::configuration::is_configuration_of` meets its contract.
use mathlib.Core.Path.{sym, ◌∙◌}
use Rattle.std.proofs.Common.{rules}
use Rattle.wellformed_configurations.proofs.Configurations.{lies_within, proper_parts, no_members}
use Rattle.wellformed_configurations.proofs.configuration.is_configuration_of.Goals as goal
use Rattle.wellformed_configurations.proofs.configuration.is_configuration_of.Goals.{then-is_configuration, else-is_configuration}

pub returns-then-all_parts : goal.returns-then-all_parts
returns-then-all_parts c =
    elim c.if-is_configuration.branch [
      | then-is_configuration w ↦
          c.all_origins.ensures
          ∙ proper_parts _ _ _ _ _ _ c.head-head.ensures c.first.ensures _ c.if-at-state.true w.if-is_configuration.ensures c.size-size.ensures
          (sym c.if-all_parts.true ∙ w.value-is ∙ w.all_parts.ensures)
      | else-is_configuration w ↦ search rules
    ]

pub returns-then-c-eq0-2 : goal.returns-then-c-eq0-2
returns-then-c-eq0-2 c =
    let a = c.args in
    let h = c.head-head.ensures in
    let p = c.first.ensures in
    let fits = lies_within a.state.now a.shards a.at.z a.at.j _ _ h p c.requires.within in
    c.all_zero.ensures ∙ no_members _ _ _ _ _ _ h p fits c.if-at-state.false c.if-c-eq0-2.true.0 c.if-c-eq0-2.true.1
