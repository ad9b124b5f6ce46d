-- One list begins another, and of two lists one begins the other (document 01, "The one list").
use Rattle.std.specs.Prelude.{ℕ, ◌≡◌, List, ◌⊎◌, length, take}

-- "A list begins another when the other is at least as long and has the same entries, in order, that far; an empty list begins every list."
pub record Begins (p l : List ℕ) : Type 0 where
  pub starts : take (length p) l ≡ p

-- the third demand: "Either box's confirmed part begins the other's, or they are equal."
pub record Share (p q : List ℕ) : Type 0 where
  pub either : Begins p q ⊎ Begins q p
