-- How long the text of a well-formed state is at most: by the digits of a row's numbers, row by row and shard by shard. Assumes nothing.
use Prim.Native.Nat.{ℕ, zero, suc, ◌+◌, ◌*◌, ◌^◌, ◌≤◌, ◌<◌}
use native.Mathlib.Nat.{mul-suc}
use native.Mathlib.Decide.{dec_lt}
use native.Mathlib.Omega.{arith}
use mathlib.Core.Path.{◌≡◌, refl}
use mathlib.Core.Bool.{true}
use mathlib.Core.List.{List, [], ◌∷◌}
use lib.ListN.{length, length-append}
use borrow.Author.Tests.{leb-true}
use Rattle.model.specs.Tests.{all_of}
use Rattle.model.specs.Entries.{is_entry}
use Rattle.model.specs.Transcript.{decimal}
use Rattle.model.specs.Layout.{shards_of, is_state_length}
use Rattle.model.specs.StableHistory.{stable_history}
use Rattle.model.proofs.AllOf.{all_head, all_tail}
use Rattle.model.proofs.Lengths.{shards_most}
use Rattle.model.proofs.WellFormed.{WellFormed, well_formed_lem}
use Rattle.decimal_text.proofs.DecimalLaws.{decimal_width}
use Rattle.stable_entries.proofs.HistorySizes.{FewEntries, entry_below, stable_few}
use Rattle.csv_rows.specs.Format.{row_text}
use Rattle.csv_rows.specs.Rows.{history_rows, shard_rows, rows}
use Rattle.csv_rows.specs.Csv.{header, rows_text, csv}
use Rattle.csv_rows.specs.Room.{entry_text, history_text, shard_text}
use Rattle.records.specs.LargestCsv.{header_bytes, shard_most, LargestClaim}
use Rattle.csv_rows.proofs.RowTexts.{kind_most, entry_length, history_first, shards_first}

-- ---- one row

-- the shard has one digit, the place at most k + 1, the entry at most 10
row_width : (k z p e : ℕ) → z < 10 → p < 10 ^ suc k → e < 2 ^ 33 → length (entry_text z p e) ≤ 22 + k
row_width k z p e a b c =
    let shard : length (decimal z) ≤ 1 = decimal_width 0 z (omega arith) in
    let place : length (decimal p) ≤ suc k = decimal_width k p b in
    let entry : length (decimal e) ≤ 10 = decimal_width 9 e (omega arith) in
    rw (entry_length z p e) (omega (arith, kind_most e))

-- ---- a history

-- the bytes of the rows of a history of shard z, from place p on
abbrev rows_bytes : ℕ → ℕ → List ℕ → ℕ
rows_bytes z p es = length (rows_text (history_rows z p es))

no_bytes : (z p : ℕ) → rows_bytes z p [] ≡ 0
unfolding rows_text history_rows
no_bytes z p = refl

first_bytes : (z p e : ℕ) (es : List ℕ) → rows_bytes z p (e ∷ es) ≡ length (entry_text z p e) + rows_bytes z (suc p) es
first_bytes z p e es = rw (history_first z p e es) (length-append (entry_text z p e) (rows_text (history_rows z (suc p) es)))

module _ (Z z : ℕ) (small : z < 10) where
  -- all places are below 10 ^ (k + 1)
  rows_width : (k p : ℕ) (es : List ℕ) → all_of (is_entry Z) es ≡ true → p + length es ≤ 10 ^ suc k → rows_bytes z p es ≤ (22 + k) * length es
  rows_width k p [] g h = omega (arith, no_bytes z p)
  rows_width k p (e ∷ es) g h =
      let row : length (entry_text z p e) ≤ 22 + k = row_width k z p e small (omega arith) (entry_below Z e (all_head (is_entry Z) e es g)) in
      let rest : rows_bytes z (suc p) es ≤ (22 + k) * length es = rows_width k (suc p) es (all_tail (is_entry Z) e es g) (omega arith) in
      rw (first_bytes z p e es, mul-suc (22 + k) (length es)) (omega arith)

  -- places below 10, and n of two digits after them
  mixed_width : (n p : ℕ) (es : List ℕ) → all_of (is_entry Z) es ≡ true → n ≤ 90 → p ≤ 10 → p + length es ≤ 10 + n
      → rows_bytes z p es ≤ 22 * length es + n
  mixed_width n p [] g a b h = omega (arith, no_bytes z p)
  mixed_width n p (e ∷ es) g a b h = go (dec_lt p 10) (mixed_width n (suc p) es (all_tail (is_entry Z) e es g) a)
    where
      go : Dec (p < 10) → (suc p ≤ 10 → suc p + length es ≤ 10 + n → rows_bytes z (suc p) es ≤ 22 * length es + n)
          → rows_bytes z p (e ∷ es) ≤ 22 * suc (length es) + n
      go (yes l) rest =
          let row : length (entry_text z p e) ≤ 22 = row_width 0 z p e small l (entry_below Z e (all_head (is_entry Z) e es g)) in
          omega (arith, first_bytes z p e es, rest l (omega arith))
      go (no l) rest = omega (arith, rows_width 1 p (e ∷ es) g (omega arith))

  -- 56 entries, of which 46 stand at places of two digits
  history_most : (es : List ℕ) → FewEntries Z es → length (history_text z es) ≤ shard_most
  unfolding history_text
  history_most es f = omega (arith, f.few, mixed_width 46 0 es f.entries (omega arith) (omega arith) (omega (arith, f.few)))

-- ---- several shards

shard_most_lem : {Z : ℕ} {w : List ℕ} → WellFormed Z w → Z ≤ 8 → (z : ℕ) → z < Z → length (shard_text w z) ≤ shard_most
unfolding shard_text
shard_most_lem {Z} {w} f m z h = history_most Z z (omega arith) (stable_history w z) (stable_few f z h)

shards_width : {Z : ℕ} {w : List ℕ} → WellFormed Z w → Z ≤ 8 → (z n : ℕ) → z + n ≤ Z → length (rows_text (shard_rows w z n)) ≤ shard_most * n
unfolding shard_rows rows_text
shards_width f m z zero h = omega arith
shards_width {Z} {w} f m z (suc n) h =
    let here : length (shard_text w z) ≤ shard_most = shard_most_lem f m z (omega arith) in
    let rest : length (rows_text (shard_rows w (suc z) n)) ≤ shard_most * n = shards_width f m (suc z) n (omega arith) in
    rw (shards_first w z n, length-append (shard_text w z) (rows_text (shard_rows w (suc z) n))) (omega arith)

-- ---- the whole

header_bytes_lem : length (row_text header) ≡ header_bytes
unfolding row_text
header_bytes_lem = refl

csv_width : (w : List ℕ) → WellFormed (shards_of (length w)) w → length (csv w) ≤ header_bytes + shard_most * shards_of (length w)
unfolding csv rows
csv_width w f =
    rw (length-append (row_text header) (rows_text (shard_rows w 0 (shards_of (length w)))), header_bytes_lem)
    (omega (arith, shards_width f (shards_most (length w)) 0 (shards_of (length w)) (omega arith)))

pub csv_largest : LargestClaim
unfolding is_state_length
csv_largest w e g =
    let l = csv_width w (well_formed_lem w (shards_of (length w)) refl (leb-true 2 (shards_of (length w)) e) g) in
    record { by_shards = l; all = omega (arith, shards_most (length w)) }
