-- The test of learn persistence over places: the words of replicas, compared with those of one of them.
use Rattle.std.specs.Prelude.{ℕ, ◌+◌, ◌*◌, ◌≤◌, Bool, ◌&&◌, List, leb, eqb, length, get_or}
use Rattle.model.specs.Tests.{all_below}
use Rattle.model.specs.Replicas.{most_entries}
use Rattle.types.specs.ReplicaPlace.{part_words}

-- the words that are compared lie in the state
pub record Compared (w : List ℕ) (first size n own : ℕ) : Type 0 where
  pub fits : first + size * part_words ≤ length w
  pub own_fits : own + part_words ≤ length w
  pub few : n ≤ most_entries

-- entry p of the replica at q is like that of the replica at own
unfoldable pub alike_entry : List ℕ → ℕ → ℕ → ℕ → Bool
alike_entry w own q p = eqb (get_or w (q + 8 + p) 0) (get_or w (own + 8 + p) 0)

-- the replica at q has n entries at least, the first n like those of the replica at own
unfoldable pub alike_at : List ℕ → ℕ → ℕ → ℕ → Bool
alike_at w n own q = leb n (get_or w (q + 1) 0) && all_below n (alike_entry w own q)

-- so have all of the replicas from `first` on
unfoldable pub all_alike_at : List ℕ → ℕ → ℕ → ℕ → ℕ → Bool
all_alike_at w first size n own = all_below size (λ k. alike_at w n own (first + k * part_words))
