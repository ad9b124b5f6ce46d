-- The next configuration of a shard: that it has room for one, and replicas that become pending.
use Rattle.std.specs.Prelude.{ℕ, zero, suc, ◌+◌, ◌*◌, ◌≤◌, ◌<◌, ◌≡◌, true, List, length, get_or}
use Rattle.types.specs.Members.{is_configuration}
use Rattle.model.specs.Replicas.{replica_words, unused, pending}
use Rattle.model.specs.Layout.{shard_words, shards_of, part, put_replica}
use Rattle.types.specs.ReplicaPlace.{part_words}
use Rattle.lookup.specs.Ready.{Formed}

-- shard z has room for one more configuration, and the member set m with its orderer o is proper
pub record ReadyNext (w : List ℕ) (z m o : ℕ) : Type 0 where
  pub state : Formed w
  pub shard : z < shards_of (length w)
  pub next : get_or w (z * shard_words + 1) 0 < 8
  pub configured : is_configuration m o ≡ true

-- n replicas from `first` on are to become pending, and all are unused
pub record Unused (w : List ℕ) (first n : ℕ) : Type 0 where
  pub few : n ≤ 4
  pub fits : first + n * part_words ≤ length w
  pub vacant : (k : ℕ) → k < n → part w (first + k * part_words) ≡ replica_words unused

-- the n replicas from `first` on are pending
unfoldable pub pending_from : List ℕ → ℕ → ℕ → List ℕ
pending_from w first zero = w
pending_from w first (suc n) = put_replica (pending_from w first n) (first + n * part_words) pending
