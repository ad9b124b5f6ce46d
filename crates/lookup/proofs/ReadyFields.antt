-- What a ready state is: well-formed, with just the words of its replicas.
-- Assumes nothing.
use Prim.Native.Nat.{ℕ}
use mathlib.Core.Path.{◌≡◌, refl}
use mathlib.Core.Bool.{true}
use mathlib.Core.List.{List}
use lib.ListN.{length}
use Rattle.types.specs.Members.{has_member, replica_number}
use Rattle.model.specs.Replicas.{replica_words}
use Rattle.model.specs.Layout.{part, place, replica_at, shards_of, members}
use Rattle.model.specs.Configuration.{configuration}
use Rattle.types.specs.ReplicaPlace.{replica_place}
use Rattle.model.proofs.Places.{replica_place_lem}
use Rattle.model.proofs.SeatedReplica.{number_small}
use Rattle.model.proofs.WellFormed.{WellFormed, well_formed_lem}
use Rattle.model.proofs.WellFormedParts.{part_is_words}
use Rattle.lookup.specs.Ready.{Formed, Ready}

-- a ready state is well-formed
pub formed : {w : List ℕ} → Formed w → WellFormed (shards_of (length w)) w
formed {w} f = well_formed_lem w (shards_of (length w)) refl f.several f.formed

-- the words of a member's replica: a well-formed state holds just those of the replica
pub member_words : {w : List ℕ} {z j : ℕ} → Ready w z j → (h : ℕ) → has_member (members w z j) h ≡ true
    → part w (replica_place (configuration w z j) h) ≡ replica_words (replica_at w (replica_place (configuration w z j) h))
unfolding replica_at
member_words {w} {z} {j} r h e =
    rw (replica_place_lem w z j h)
    (part_is_words (shards_of (length w)) j _ (part w (place z j (replica_number (members w z j) h)))
    ((formed r.state).parts z j (replica_number (members w z j) h) r.shard r.configuration
    (number_small (formed r.state) r.shard r.configuration h e)))
