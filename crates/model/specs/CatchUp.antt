-- Kind 7, catch up (request A4, "Catching up from a neighbour seat"; source document 002's `inheritHistory3`): a pending replica begins from a peer, a
-- replica of its own configuration.
use Rattle.std.specs.Prelude.{ℕ, Bool, not, ◌&&◌, List, [], ◌∷◌}
use Rattle.model.specs.Checks.{Check, ◌or_else◌}
use Rattle.types.specs.Members.{has_member}
use Rattle.model.specs.Replicas.{is_pending, caught_up}
use Rattle.model.specs.Layout.{is_installed, members, put_replica}
use Rattle.model.specs.Configuration.{configuration, replica_in}
use Rattle.types.specs.ReplicaPlace.{replica_place}

-- "a seat of the same configuration that is not pending": "A source that is no member or is pending gets 13"
unfoldable pub is_peer : List ℕ → ℕ → ℕ → ℕ → Bool
is_peer w z j g = has_member (members w z j) g && not (is_pending (replica_in w z j g))

-- "the order is that of inherit": 10, 11, 12, 13
unfoldable pub catch_up_checks : List ℕ → ℕ → ℕ → ℕ → ℕ → List Check
catch_up_checks w z j h g =
    is_installed w z j or_else 10
    ∷ has_member (members w z j) h or_else 11
    ∷ is_pending (replica_in w z j h) or_else 12
    ∷ is_peer w z j g or_else 13
    ∷ []

unfoldable pub catch_up_effect : List ℕ → ℕ → ℕ → ℕ → ℕ → List ℕ
catch_up_effect w z j h g = put_replica w (replica_place (configuration w z j) h) (caught_up (replica_in w z j g))
