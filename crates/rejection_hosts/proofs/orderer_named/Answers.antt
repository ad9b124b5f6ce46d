-- `rejection_hosts::orderer_named` meets its contract.
use mathlib.Core.Path.{sym, ap, ◌∙◌}
use Rattle.types.specs.declared.configuration.Configuration.{Configuration}
use Rattle.rejection_hosts.proofs.Named.{by_seven, index_least, names-configuration, no_orderer, has_orderer}
use Rattle.rejection_hosts.proofs.orderer_named.Goals as goal

pub returns-then-is_unnamed : goal.returns-then-is_unnamed
returns-then-is_unnamed c = no_orderer c.requires (sym c.is_unnamed.ensures ∙ c.if-is_unnamed.true)

pub overflow_sub-at : goal.overflow_sub-at
overflow_sub-at c = index_least c.requires (by_seven _ (sym c.is_unnamed.ensures ∙ c.if-is_unnamed.false))

pub configuration_of-requires : goal.configuration_of-requires
configuration_of-requires c = names-configuration c.requires (by_seven _ (sym c.is_unnamed.ensures ∙ c.if-is_unnamed.false)) c.shard.ensures

pub returns : goal.returns
returns c =
    has_orderer c.requires (sym c.is_unnamed.ensures ∙ c.if-is_unnamed.false) c.shard.ensures
    (ap (λ (x : Configuration). x.orderer) c.configuration_of.ensures)
