-- The text in parts, and what the functions inside `records` require: a state of so many shards.
use Rattle.std.specs.Prelude.{ℕ, ◌≡◌, List, length}
use Rattle.model.specs.Layout.{shards_of}
use Rattle.model.specs.StableHistory.{stable_history}
use Rattle.lookup.specs.Ready.{Formed}
use Rattle.csv_rows.specs.Format.{row_text}
use Rattle.csv_rows.specs.Rows.{row_of, history_rows}
use Rattle.csv_rows.specs.Csv.{row_fields, rows_text}

-- the text of one row, of a history, of a shard
unfoldable pub entry_text : ℕ → ℕ → ℕ → List ℕ
entry_text z p e = row_text (row_fields (row_of z p e))

unfoldable pub history_text : ℕ → List ℕ → List ℕ
history_text z es = rows_text (history_rows z 0 es)

unfoldable pub shard_text : List ℕ → ℕ → List ℕ
shard_text w z = history_text z (stable_history w z)

-- a well-formed state of n shards
pub record FormedOf (w : List ℕ) (n : ℕ) : Type 0 where
  pub formed : Formed w
  pub shards : n ≡ shards_of (length w)
