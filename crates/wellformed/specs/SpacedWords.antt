-- Words at a distance from each other.
use Rattle.std.specs.Prelude.{ℕ, ◌*◌, ◌<◌, List, length}

-- so many of them, from the first word on, lie in the list
pub record Spaced (words : List ℕ) (distance count : ℕ) : Type 0 where
  pub within : (k : ℕ) → k < count → k * distance < length words
