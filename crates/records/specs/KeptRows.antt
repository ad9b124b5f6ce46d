-- A row that was exported once stays: over every run, each row of the text at a moment is a row of the text at every later moment. It is proved in
-- `proofs/KeptRows.antt` (`kept_rows`).
use Rattle.std.specs.Prelude.{ℕ, ◌≤◌, ◌<◌, ◌≡◌, List, length}
use Rattle.model.specs.Setup.{setup_rejection, after_setup}
use Rattle.model.specs.Runs.{Call, Moment, played, state_at}
use Rattle.csv_rows.specs.Rows.{rows, row_at}
use Rattle.records.specs.Once.{HasRow}

-- w is the state after setup, ms every step tried since: row i at moment m, and every later moment n
unfoldable pub RowsKept : List ℕ → List Moment → Type 0
RowsKept w ms = (m n i : ℕ) → m ≤ n → i < length (rows (state_at w ms m)) → HasRow (state_at w ms n) (row_at (state_at w ms m) i)

-- for every borrowed state and plan that setup accepts, and every list of calls
unfoldable pub KeptRows : Type 0
KeptRows = (w p : List ℕ) → setup_rejection w p ≡ 0 → (calls : List Call) → RowsKept (after_setup w p) (played (after_setup w p) calls)
