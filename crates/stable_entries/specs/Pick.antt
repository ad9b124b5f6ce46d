-- The replica of a shard that has the longest stable prefix.
use Rattle.std.specs.Prelude.{ℕ, zero, suc, ◌+◌, ◌<◌, cond, List, ltb, length, get_or}
use Rattle.model.specs.Layout.{shards_of, place}
use Rattle.lookup.specs.Ready.{Formed}

-- the place of the replica with the longest stable prefix among the first n + 1 of shard z: the first of equally long ones
unfoldable pub longest_place : List ℕ → ℕ → ℕ → ℕ
longest_place w z zero = place z 0 0
longest_place w z (suc n) =
    cond (ltb (get_or w (longest_place w z n + 2) 0) (get_or w (place z 0 (suc n) + 2) 0)) (place z 0 (suc n)) (longest_place w z n)

-- a shard of a well-formed state
pub record OfShard (w : List ℕ) (z : ℕ) : Type 0 where
  pub formed : Formed w
  pub shard : z < shards_of (length w)
