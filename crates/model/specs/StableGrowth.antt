-- A shard's stable history only grows, as one claim over every run: at a moment it begins that of every later moment. It is proved in
-- `proofs/StableGrowth.antt` (`stable_growth`).
use Rattle.std.specs.Prelude.{ℕ, ◌≤◌, ◌<◌, ◌≡◌, List}
use Rattle.model.specs.Setup.{setup_rejection, after_setup}
use Rattle.model.specs.StableHistory.{stable_history}
use Rattle.model.specs.Prefixes.{Begins}
use Rattle.model.specs.Runs.{Call, Moment, played, state_at}
use Rattle.model.specs.OneList.{shards}

-- w is the state after setup, ms every step tried since: from moment m to every later moment n
unfoldable pub StableGrows : List ℕ → List Moment → Type 0
StableGrows w ms =
    (z m n : ℕ) → z < shards w → m ≤ n → Begins (stable_history (state_at w ms m) z) (stable_history (state_at w ms n) z)

-- for every borrowed state and plan that setup accepts, and every list of calls
unfoldable pub StableGrowth : Type 0
StableGrowth =
    (w p : List ℕ) → setup_rejection w p ≡ 0 → (calls : List Call) → StableGrows (after_setup w p) (played (after_setup w p) calls)
