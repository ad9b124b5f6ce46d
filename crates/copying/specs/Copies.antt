-- A replica with the history of another one.
use Rattle.std.specs.Prelude.{ℕ}
use Rattle.model.specs.Replicas.{Replica}

-- .. in a mode, with a stable length and an origin of its own
abbrev pub copied : ℕ → ℕ → ℕ → Replica → Replica
copied mode stable origin r = record { mode = mode; history = r.history; stable = stable; origin = origin }
