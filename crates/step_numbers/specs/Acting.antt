-- Where a step finds the replica of the host that it names: rejections 7, 10 and 11, and the replica's place.
use Rattle.std.specs.Prelude.{ℕ, ◌≡◌, true, Ok, List, [], ◌∷◌, length}
use Rattle.types.specs.declared.kind.Kind.{Kind}
use Rattle.types.specs.Members.{has_member}
use Rattle.types.specs.ReplicaPlace.{replica_place}
use Rattle.model.specs.Checks.{Check, ◌or_else◌}
use Rattle.model.specs.Layout.{shards_of, is_installed, members}
use Rattle.model.specs.Configuration.{configuration}
use Rattle.model.specs.Steps.{are_numbers}
use Rattle.lookup.specs.Ready.{Placed}

unfoldable pub acting_checks : Kind → List ℕ → ℕ → ℕ → ℕ → ℕ → List Check
acting_checks k w z j h d =
    are_numbers (Ok k) (shards_of (length w)) h d or_else 7 ∷ is_installed w z j or_else 10 ∷ has_member (members w z j) h or_else 11 ∷ []

-- they pass, and p is the place
pub record Acting (k : Kind) (w : List ℕ) (z j h d p : ℕ) : Type 0 where
  pub numbers : are_numbers (Ok k) (shards_of (length w)) h d ≡ true
  pub there : is_installed w z j ≡ true
  pub member : has_member (members w z j) h ≡ true
  pub place_is : replica_place (configuration w z j) h ≡ p
  pub placed : Placed w p
