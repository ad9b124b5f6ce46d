-- Kind 4, wedge: an active replica becomes immutable.
use Rattle.std.specs.Prelude.{ℕ, List, [], ◌∷◌}
use Rattle.model.specs.Checks.{Check, ◌or_else◌}
use Rattle.types.specs.Members.{has_member}
use Rattle.model.specs.Replicas.{is_active, wedged}
use Rattle.model.specs.Layout.{is_installed, members, put_replica}
use Rattle.model.specs.Configuration.{configuration, replica_of}
use Rattle.types.specs.ReplicaPlace.{replica_place}

-- "wedge 10, 11, 12"
unfoldable pub wedge_checks : List ℕ → ℕ → ℕ → ℕ → List Check
wedge_checks w z j h =
    is_installed w z j or_else 10
    ∷ has_member (members w z j) h or_else 11
    ∷ is_active (replica_of w (configuration w z j) h) or_else 12
    ∷ []

unfoldable pub wedge_effect : List ℕ → ℕ → ℕ → ℕ → List ℕ
wedge_effect w z j h = put_replica w (replica_place (configuration w z j) h) (wedged (replica_of w (configuration w z j) h))
