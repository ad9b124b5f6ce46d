-- Kind 3, confirm (learn persistence): a longer prefix of a replica's history is stable.
use Rattle.std.specs.Prelude.{ℕ, Bool, ◌&&◌, List, [], ◌∷◌, leb, ltb, eqb, length, get_or}
use Rattle.model.specs.Tests.{all_below}
use Rattle.model.specs.Checks.{Check, ◌or_else◌}
use Rattle.types.specs.Members.{size, has_member}
use Rattle.model.specs.Replicas.{is_active, learned}
use Rattle.model.specs.Layout.{place, is_installed, members, put_replica, replica_at}
use Rattle.model.specs.Configuration.{configuration, replica_of}
use Rattle.types.specs.ReplicaPlace.{replica_place}

-- history g is at least n long and in its first n entries like history f
unfoldable pub alike : ℕ → List ℕ → List ℕ → Bool
alike n f g = leb n (length g) && all_below n (λ p. eqb (get_or g p 0) (get_or f p 0))

-- "all lists of the configuration at least that long and alike in their first that many entries", f being one of them
unfoldable pub all_alike : List ℕ → ℕ → ℕ → ℕ → List ℕ → Bool
all_alike w z j n f = all_below (size (members w z j)) (λ k. alike n f (replica_at w (place z j k)).history)

-- "confirm 10, 11, 12, 18, 19"
unfoldable pub learn_checks : List ℕ → ℕ → ℕ → ℕ → ℕ → List Check
learn_checks w z j h n =
    is_installed w z j or_else 10
    ∷ has_member (members w z j) h or_else 11
    ∷ is_active (replica_of w (configuration w z j) h) or_else 12
    ∷ ltb (replica_of w (configuration w z j) h).stable n or_else 18
    ∷ all_alike w z j n (replica_of w (configuration w z j) h).history or_else 19
    ∷ []

unfoldable pub learn_effect : List ℕ → ℕ → ℕ → ℕ → ℕ → List ℕ
learn_effect w z j h n =
    put_replica w (replica_place (configuration w z j) h) (learned n (replica_of w (configuration w z j) h))
