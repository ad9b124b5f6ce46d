-- No text is longer. It is proved in `proofs/LargestCsv.antt` (`csv_largest`).
use Rattle.std.specs.Prelude.{ℕ, ◌+◌, ◌*◌, ◌≤◌, ◌≡◌, true, List, length}
use Rattle.model.specs.Layout.{shards_of, is_state_length}
use Rattle.model.specs.WellFormed.{well_formed}
use Rattle.csv_rows.specs.Csv.{csv}

-- a header of 23 bytes, and for a shard 56 rows: 10 of at most 22 bytes and 46 of at most 23
abbrev pub header_bytes : ℕ
header_bytes = 23

abbrev pub shard_most : ℕ
shard_most = 1278

-- .. for 8 shards
abbrev pub csv_most : ℕ
csv_most = 10247

pub record LargestCsv (w : List ℕ) : Type 0 where
  pub by_shards : length (csv w) ≤ header_bytes + shard_most * shards_of (length w)
  pub all : length (csv w) ≤ csv_most

-- of every state that passes the checks
abbrev pub LargestClaim : Type 0
LargestClaim = (w : List ℕ) → is_state_length (length w) ≡ true → well_formed w ≡ true → LargestCsv w
