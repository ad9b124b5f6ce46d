-- The configuration before another one, to which the origins of its replicas point.
use Rattle.std.specs.Prelude.{ℕ, ◌+◌, ◌-◌, ◌*◌, ◌≤◌, ◌<◌, List, length}
use Rattle.types.specs.Members.{size}
use Rattle.model.specs.Layout.{shard_words, members}

-- the words of configuration j of shard z are there
pub record Within (w : List ℕ) (z j : ℕ) : Type 0 where
  pub shard : z * shard_words + shard_words ≤ length w
  pub configuration : j < 8

-- .. and the configuration before has at most four members, where j is not the first
pub record HasBefore (w : List ℕ) (z j : ℕ) : Type 0 where
  pub within : Within w z j
  pub few : 1 ≤ j → size (members w z (j - 1)) ≤ 4
