-- A configuration of a state as a record, and the replicas of its hosts.
use Rattle.std.specs.Prelude.{ℕ, List}
use Rattle.types.specs.ReplicaPlace.{replica_place}
use Rattle.types.specs.declared.configuration.Configuration.{Configuration}
use Rattle.model.specs.Layout.{place, members, orderer, replica_at}
use Rattle.model.specs.Replicas.{Replica}

-- configuration j (index j + 1) of shard z
unfoldable pub configuration : List ℕ → ℕ → ℕ → Configuration
configuration w z j = record { place = place z j 0; members = members w z j; orderer = orderer w z j }

-- "The seat" of a host, and the orderer's
unfoldable pub replica_of : List ℕ → Configuration → ℕ → Replica
replica_of w c h = replica_at w (replica_place c h)

-- .. in configuration j of shard z
unfoldable pub replica_in : List ℕ → ℕ → ℕ → ℕ → Replica
replica_in w z j h = replica_of w (configuration w z j) h
