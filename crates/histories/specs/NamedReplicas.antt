-- A replica that a caller names by shard, index and host, and where it is in a state of which nothing is known yet.
use Rattle.std.specs.Prelude.{ℕ, ◌-◌, Bool, ◌&&◌, List, [], ◌∷◌, length, Result}
use Rattle.types.specs.declared.rejection.Rejection.{Rejection}
use Rattle.types.specs.Rejections.{answered}
use Rattle.model.specs.Checks.{Check, first_of, ◌or_else◌}
use Rattle.types.specs.Members.{is_host, has_member}
use Rattle.model.specs.Layout.{shards_of, is_state_length, is_installed, members}
use Rattle.model.specs.Configuration.{configuration}
use Rattle.types.specs.ReplicaPlace.{replica_place}
use Rattle.model.specs.WellFormed.{well_formed}
use Rattle.step_numbers.specs.StepRanges.{is_index_of}

-- rejection 7: "zone not below Z, index not 1 to 8, a box above 15"
unfoldable pub is_replica_name : ℕ → ℕ → ℕ → ℕ → Bool
is_replica_name Z z i h = is_index_of Z z i && is_host h

-- in the order of a step's checks: 1, 7, 9, 10, 11
unfoldable pub replica_checks : List ℕ → ℕ → ℕ → ℕ → List Check
replica_checks w z i h =
    is_state_length (length w) or_else 1
    ∷ is_replica_name (shards_of (length w)) z i h or_else 7
    ∷ well_formed w or_else 9
    ∷ is_installed w z (i - 1) or_else 10
    ∷ has_member (members w z (i - 1)) h or_else 11
    ∷ []

-- the rejection, or the place of the replica
unfoldable pub found_named : List ℕ → ℕ → ℕ → ℕ → Result ℕ Rejection
found_named w z i h = answered (first_of (replica_checks w z i h)) (replica_place (configuration w z (i - 1)) h)
