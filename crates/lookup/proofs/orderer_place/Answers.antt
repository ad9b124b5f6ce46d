-- `lookup::orderer_place` meets its contract.
use mathlib.Core.Path.{ap, ◌∙◌}
use Rattle.types.specs.declared.configuration.Configuration.{Configuration}
use Rattle.model.specs.Configuration.{configuration}
use Rattle.types.specs.ReplicaPlace.{replica_place}
use Rattle.model.specs.Add.{orderer_place}
use Rattle.lookup.proofs.FoundReplicas.{small_place}
use Rattle.lookup.proofs.Orderers.{ordered, orderer_placed}
use Rattle.lookup.proofs.orderer_place.Goals as goal

pub replica-requires : goal.replica-requires
unfolding configuration
replica-requires c =
    let r = c.requires in
    (rw c.configuration_of-c.ensures (ordered r).host, rw c.configuration_of-c.ensures (small_place r.ready))

pub returns : goal.returns
unfolding orderer_place
returns c =
    let p = c.replica.ensures ∙ ap (λ (k : Configuration). replica_place k k.orderer) c.configuration_of-c.ensures in
    (p, rw p (orderer_placed c.requires))
