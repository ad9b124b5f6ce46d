-- A shard's stable history ("A zone's confirmed list is the longest confirmed part over all its seats, picked as the print below picks it").
use Rattle.std.specs.Prelude.{ℕ, zero, suc, cond, List, [], ltb, length}
use Rattle.model.specs.Replicas.{stable_prefix}
use Rattle.model.specs.Layout.{place, replica_at}

-- the first list, unless the second is longer
unfoldable pub longer : List ℕ → List ℕ → List ℕ
longer p q = cond (ltb (length p) (length q)) q p

-- the longest stable prefix of the first n replicas of shard z, "of equally long ones, lowest index, then lowest seat". The replicas of all configurations
-- stand one after the other, four each, so replica n counted from configuration 0 on is replica n % 4 of configuration n / 4: `place_through` in
-- `proofs/Places.antt`
unfoldable pub longest_of : List ℕ → ℕ → ℕ → List ℕ
longest_of w z zero = []
longest_of w z (suc n) = longer (longest_of w z n) (stable_prefix (replica_at w (place z 0 n)))

-- "over all its seats": 8 configurations of 4 replicas
unfoldable pub stable_history : List ℕ → ℕ → List ℕ
stable_history w z = longest_of w z 32
