-- Issues looked for in a history by their shard and index.
use Rattle.std.specs.Prelude.{ℕ, Bool, false, ◌||◌, List, [], ◌∷◌}
use Rattle.model.specs.Entries.{names}

-- an issue for shard z and index i is in a list
unfoldable pub issued_in : ℕ → ℕ → List ℕ → Bool
issued_in z i [] = false
issued_in z i (x ∷ l) = names z i x || issued_in z i l
