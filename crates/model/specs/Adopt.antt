-- Kind 2, adopt (adopt history): a replica takes over the orderer's history.
use Rattle.std.specs.Prelude.{ℕ, not, List, [], ◌∷◌, eqb}
use Rattle.model.specs.Checks.{Check, ◌or_else◌}
use Rattle.types.specs.Members.{has_member}
use Rattle.model.specs.Replicas.{is_active, is_pending, adopted}
use Rattle.model.specs.Layout.{is_installed, members, orderer, put_replica}
use Rattle.model.specs.Configuration.{configuration, replica_of}
use Rattle.types.specs.ReplicaPlace.{replica_place}
use Rattle.model.specs.Add.{orderer_replica}

-- "adopt 10, 11, 14, 12, 13"
unfoldable pub adopt_checks : List ℕ → ℕ → ℕ → ℕ → List Check
adopt_checks w z j h =
    is_installed w z j or_else 10
    ∷ has_member (members w z j) h or_else 11
    ∷ not (eqb h (orderer w z j)) or_else 14
    ∷ is_active (replica_of w (configuration w z j) h) or_else 12
    ∷ not (is_pending (orderer_replica w z j)) or_else 13
    ∷ []

unfoldable pub adopt_effect : List ℕ → ℕ → ℕ → ℕ → List ℕ
adopt_effect w z j h =
    put_replica w (replica_place (configuration w z j) h)
    (adopted (orderer_replica w z j) (replica_of w (configuration w z j) h))
