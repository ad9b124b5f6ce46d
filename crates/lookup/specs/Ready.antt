-- A state that is known to be well-formed, and what a step names of it: a shard, a configuration, a host.
use Rattle.std.specs.Prelude.{ℕ, ◌+◌, ◌*◌, ◌≤◌, ◌<◌, ◌≡◌, true, List, length}
use Rattle.model.specs.Replicas.{replica_words}
use Rattle.model.specs.Layout.{shard_words, shards_of, is_installed, part, replica_at}
use Rattle.types.specs.ReplicaPlace.{part_words}
use Rattle.model.specs.WellFormed.{well_formed}

-- a well-formed state, with what that says of its length
pub record Formed (w : List ℕ) : Type 0 where
  pub formed : well_formed w ≡ true
  pub several : 2 ≤ shards_of (length w)
  pub most : shards_of (length w) ≤ 8
  pub long : length w ≡ shards_of (length w) * shard_words

-- .. and a configuration j of a shard z of it
pub record Ready (w : List ℕ) (z j : ℕ) : Type 0 where
  pub state : Formed w
  pub shard : z < shards_of (length w)
  pub configuration : j < 8

-- .. which is installed
pub record ReadyInstalled (w : List ℕ) (z j : ℕ) : Type 0 where
  pub ready : Ready w z j
  pub there : is_installed w z j ≡ true

-- a configuration, installed or not, and a host, as most steps name it
pub record ReadyHost (w : List ℕ) (z j h : ℕ) : Type 0 where
  pub ready : Ready w z j
  pub host : h < 16

-- the place of 64 words of the state
pub record Placed (w : List ℕ) (at : ℕ) : Type 0 where
  pub fits : at + part_words ≤ length w

-- .. which are just those of the replica that they hold
pub record HoldsReplica (w : List ℕ) (at : ℕ) : Type 0 where
  pub placed : Placed w at
  pub words : part w at ≡ replica_words (replica_at w at)
