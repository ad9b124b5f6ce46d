-- Which rows the text has: each entry of each shard's stable history (document 02, A1: "every zone's longest confirmed list").
use Rattle.std.specs.Prelude.{ℕ, zero, suc, List, [], ◌∷◌, ◌++◌, length, get_or}
use Rattle.model.specs.Layout.{shards_of}
use Rattle.model.specs.StableHistory.{stable_history}

-- an entry and where it stands; the kind follows from the entry
pub record Row : Type 0 where
  pub shard : ℕ
  pub place : ℕ
  pub entry : ℕ

abbrev pub row_of : ℕ → ℕ → ℕ → Row
row_of z p e = record { shard = z; place = p; entry = e }

-- the rows of a history of shard z, from place p on
unfoldable pub history_rows : ℕ → ℕ → List ℕ → List Row
history_rows z p [] = []
history_rows z p (e ∷ es) = row_of z p e ∷ history_rows z (suc p) es

-- "place counts from 0; rows go by zone, then place": the rows of n shards, from shard z on
unfoldable pub shard_rows : List ℕ → ℕ → ℕ → List Row
shard_rows w z zero = []
shard_rows w z (suc n) = history_rows z 0 (stable_history w z) ++ shard_rows w (suc z) n

unfoldable pub rows : List ℕ → List Row
rows w = shard_rows w 0 (shards_of (length w))

-- row i of the text, counted from 0 after the header
unfoldable pub row_at : List ℕ → ℕ → Row
row_at w i = get_or (rows w) i (row_of 0 0 0)
