-- A step of a kind on a well-formed state, its shard and its index being in range: what it answers and leaves.
use Rattle.types.specs.Kinds.{NamedKind}
use Rattle.std.specs.Prelude.{ℕ, ◌≡◌, cond, List, ◌∷◌, eqb, length}
use Rattle.model.specs.Checks.{first_of, ◌or_else◌}
use Rattle.model.specs.Layout.{shards_of}
use Rattle.model.specs.Steps.{are_numbers, kind_checks, kind_effect}
use Rattle.lookup.specs.Ready.{Ready}

-- a configuration j of a shard z, in a well-formed state with its number of shards
pub record ReadyKind (w : List ℕ) (shards z j : ℕ) : Type 0 where
  pub ready : Ready w z j
  pub count : shards ≡ shards_of (length w)

-- rejection 7 for its third and fourth number, then the checks of the kind
unfoldable pub kind_answer : NamedKind → List ℕ → ℕ → ℕ → ℕ → ℕ → ℕ
kind_answer k w z j c d = first_of (are_numbers k (shards_of (length w)) c d or_else 7 ∷ kind_checks k w z j c d)

unfoldable pub kind_after : NamedKind → List ℕ → ℕ → ℕ → ℕ → ℕ → List ℕ
kind_after k w z j c d = cond (eqb (kind_answer k w z j c d) 0) (kind_effect k w z j c d) w
