-- `rejection_hosts::count_of` meets its contract.
use mathlib.Core.Path.{◌∙◌}
use Rattle.rejection_hosts.proofs.Named.{counted}
use Rattle.rejection_hosts.proofs.count_of.Goals as goal

pub returns-clause-value : goal.returns-clause-value
returns-clause-value c = rw c.then_some.ensures (counted _ _ (c.unwrap_or.ensures ∙ c.orderer_named.ensures) c.host-host.ensures)
