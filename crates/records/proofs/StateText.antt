-- The text of a well-formed state: the header and the shards' parts.
-- Assumes nothing.
use Prim.Native.Nat.{ℕ, ◌+◌, ◌*◌, ◌≤◌, ◌<◌}
use native.Mathlib.Omega.{arith}
use mathlib.Core.Path.{◌≡◌, refl}
use mathlib.Core.List.{List, ◌++◌}
use lib.ListN.{length, length-append}
use borrow.Author.Tests.{le-leb}
use Rattle.model.specs.Layout.{shards_of, is_state_length}
use Rattle.model.specs.StableHistory.{stable_history}
use Rattle.model.proofs.Lengths.{shards_most}
use Rattle.lookup.specs.Ready.{Formed}
use Rattle.stable_entries.specs.Pick.{OfShard}
use Rattle.csv_rows.specs.Format.{row_text}
use Rattle.csv_rows.specs.Rows.{rows}
use Rattle.csv_rows.specs.Csv.{header, csv}
use Rattle.csv_rows.specs.Room.{history_text, shard_text, FormedOf}
use Rattle.records.specs.LargestCsv.{header_bytes, shard_most, csv_most, LargestCsv}
use Rattle.csv_rows.proofs.TextParts.{first_shards, shard_parts}
use Rattle.records.proofs.LargestCsv.{csv_largest}

-- the rows of a shard's stable history are the shard's part
pub shard_part : (w : List ℕ) (z : ℕ) {es : List ℕ} → es ≡ stable_history w z → history_text z es ≡ shard_text w z
unfolding shard_text
shard_part w z e = rw e

-- the whole is the header and the rows of all shards
pub csv_parts : (w : List ℕ) → csv w ≡ row_text header ++ first_shards w (shards_of (length w))
unfolding csv rows
csv_parts w = refl

largest : {w : List ℕ} → Formed w → LargestCsv w
unfolding is_state_length
largest {w} f = csv_largest w (le-leb 2 (shards_of (length w)) f.several) f.formed

module _ {w : List ℕ} {n : ℕ} (f : FormedOf w n) where
  pub of_shard : (z : ℕ) → z < n → OfShard w z
  of_shard z h = record { formed = f.formed; shard = omega (arith, f.shards, h) }

  pub csv_by_shards : length (csv w) ≤ header_bytes + shard_most * n
  csv_by_shards = rw f.shards (largest f.formed).by_shards

  pub rows_bound : length (first_shards w n) ≤ csv_most
  rows_bound =
      let e : length (csv w) ≡ length (row_text header) + length (first_shards w n) =
      rw (csv_parts w, f.shards) (length-append (row_text header) (first_shards w (shards_of (length w)))) in
      omega (arith, e, (largest f.formed).all)

  pub few_shards : n ≤ 8
  few_shards = omega (arith, f.shards, shards_most (length w))

-- with these the check finds by itself that a loop over the shards takes their parts one by one
pub ruleset state_parts = (shard_parts, shard_part, of_shard, csv_parts, rows_bound)
