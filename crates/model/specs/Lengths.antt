-- The number of shards that comparing gives is the one that dividing gives, as one claim over every length, so request A5 changes no answer.
-- It is proved in `proofs/Lengths.antt` (`compared_shards`).
use Rattle.std.specs.Prelude.{ℕ, ◌*◌, ◌/◌, ◌≡◌, cond, ◌&&◌, leb, eqb}
use Rattle.model.specs.Layout.{shard_words, shards_of}

-- document 01: "Z blocks of 2,112 words, Z from 2 to 8": the quotient where 2,112 divides the length and it is 2 to 8, else 0
unfoldable pub quotient_of : ℕ → ℕ
quotient_of n =
    cond (eqb (n / shard_words * shard_words) n && leb 2 (n / shard_words) && leb (n / shard_words) 8) (n / shard_words) 0

pub record ComparedShards : Type 0 where
  pub quotient : (n : ℕ) → shards_of n ≡ quotient_of n
