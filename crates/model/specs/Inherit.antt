-- Kind 6, inherit (inherit history): a pending replica begins from an immutable one of the configuration before.
use Rattle.std.specs.Prelude.{ℕ, ◌-◌, Bool, ◌&&◌, List, [], ◌∷◌}
use Rattle.model.specs.Checks.{Check, ◌or_else◌}
use Rattle.types.specs.Members.{has_member}
use Rattle.model.specs.Replicas.{Replica, is_pending, is_immutable, inherited}
use Rattle.model.specs.Layout.{is_installed, members, put_replica}
use Rattle.model.specs.Configuration.{configuration, replica_of}
use Rattle.types.specs.ReplicaPlace.{replica_place}

-- "source's seat of index − 1"
unfoldable pub source : List ℕ → ℕ → ℕ → ℕ → Replica
source w z j g = replica_of w (configuration w z (j - 1)) g

-- "13. The other seat has the wrong mode; for inherit, also a source that is no member"
unfoldable pub is_source : List ℕ → ℕ → ℕ → ℕ → Bool
is_source w z j g = has_member (members w z (j - 1)) g && is_immutable (source w z j g)

-- "inherit 10, 11, 12, 13"
unfoldable pub inherit_checks : List ℕ → ℕ → ℕ → ℕ → ℕ → List Check
inherit_checks w z j h g =
    is_installed w z j or_else 10
    ∷ has_member (members w z j) h or_else 11
    ∷ is_pending (replica_of w (configuration w z j) h) or_else 12
    ∷ is_source w z j g or_else 13
    ∷ []

unfoldable pub inherit_effect : List ℕ → ℕ → ℕ → ℕ → ℕ → List ℕ
inherit_effect w z j h g = put_replica w (replica_place (configuration w z j) h) (inherited g (source w z j g))
