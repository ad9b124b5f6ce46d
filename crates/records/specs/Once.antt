-- The rows and the stable histories say the same: each row is an entry of a stable history, each entry has its row, and no two rows are for one zone
-- and place, since rows go by zone and then place. It is proved in `proofs/EachOnce.antt` (`each_once`).
use Rattle.std.specs.Prelude.{ℕ, ◌<◌, ◌≡◌, List, length, get_or}
use Rattle.model.specs.Layout.{shards_of}
use Rattle.model.specs.StableHistory.{stable_history}
use Rattle.csv_rows.specs.Rows.{Row, row_of, rows, row_at}

-- r is an entry of a stable history of w
pub record IsEntryOf (w : List ℕ) (r : Row) : Type 0 where
  pub shard : r.shard < shards_of (length w)
  pub place : r.place < length (stable_history w r.shard)
  pub entry : r.entry ≡ get_or (stable_history w r.shard) r.place 0

-- r is a row of the text of w
pub record HasRow (w : List ℕ) (r : Row) : Type 0 where
  pub at : ℕ
  pub below : at < length (rows w)
  pub row : row_at w at ≡ r

-- "rows go by zone, then place"
pub data Before (r s : Row) : Type 0 where
  by_shard : r.shard < s.shard → Before r s
  by_place : r.shard ≡ s.shard → r.place < s.place → Before r s

pub record EachOnce (w : List ℕ) : Type 0 where
  pub sound : (i : ℕ) → i < length (rows w) → IsEntryOf w (row_at w i)
  pub complete : (z p : ℕ) → z < shards_of (length w) → p < length (stable_history w z) → HasRow w (row_of z p (get_or (stable_history w z) p 0))
  pub ordered : (i j : ℕ) → i < j → j < length (rows w) → Before (row_at w i) (row_at w j)
  -- no text has two rows for one zone and place
  pub once : (i j : ℕ) → i < length (rows w) → j < length (rows w) → (row_at w i).shard ≡ (row_at w j).shard → (row_at w i).place ≡ (row_at w j).place
      → i ≡ j

abbrev pub EachOnceClaim : Type 0
EachOnceClaim = (w : List ℕ) → EachOnce w
