-- The rows are the entries of the stable histories, each once, by shard and then place. Assumes nothing.
use Prim.Native.Nat.{ℕ, zero, suc, ◌+◌, ◌≤◌, ◌<◌}
use native.Mathlib.Decide.{dec_lt}
use native.Mathlib.Omega.{arith}
use mathlib.Core.Path.{◌≡◌, refl, sym, ◌∙◌}
use mathlib.Core.List.{List}
use lib.ListN.{length, get_or}
use Rattle.model.specs.Layout.{shards_of}
use Rattle.model.specs.StableHistory.{stable_history}
use Rattle.csv_rows.specs.Rows.{Row, shard_rows, rows, row_at}
use Rattle.records.specs.Once.{IsEntryOf, HasRow, Before, by_shard, by_place, EachOnceClaim}
use Rattle.records.proofs.RowPlaces.{shards_row, entry_row, no_row, shards-length, first_row, later_row, Stands, first, later, stands}

-- ---- each row is an entry

-- .. of one of n shards, from shard z on
record Within (w : List ℕ) (z n : ℕ) (r : Row) : Type 0 where
  least : z ≤ r.shard
  below : r.shard < z + n
  place : r.place < length (stable_history w r.shard)
  entry : r.entry ≡ get_or (stable_history w r.shard) r.place 0

rows_within : (w : List ℕ) (z n i : ℕ) → i < length (shard_rows w z n) → Within w z n (shards_row w z n i)
rows_within w z zero i h = absurd (no_row w z i h)
rows_within w z (suc n) i h = go (stands w z n i h) (rows_within w (suc z) n)
  where
    go : Stands w z n i → ((k : ℕ) → k < length (shard_rows w (suc z) n) → Within w (suc z) n (shards_row w (suc z) n k))
        → Within w z (suc n) (shards_row w z (suc n) i)
    go (first l) rest = rw (first_row w z n i l) (record { least = omega arith; below = omega arith; place = l; entry = refl })
    go (later k e l) rest =
        let r = rest k l in
        rw (e, later_row w z n k)
        (record { least = omega (arith, r.least); below = omega (arith, r.below); place = r.place; entry = r.entry })

-- ---- each entry has a row

abbrev HasRowOf : List ℕ → ℕ → ℕ → Row → Type 0
HasRowOf w z n r = (i : ℕ) × (i < length (shard_rows w z n)) × (shards_row w z n i ≡ r)

each_has_row : (w : List ℕ) (z n s p : ℕ) → z ≤ s → s < z + n → p < length (stable_history w s) → HasRowOf w z n (entry_row w s p)
each_has_row w z zero s p a b h = absurd (omega arith)
each_has_row w z (suc n) s p a b h = go (dec_lt z s) (each_has_row w (suc z) n s p)
  where
    go : Dec (z < s) → (suc z ≤ s → s < suc z + n → p < length (stable_history w s) → HasRowOf w (suc z) n (entry_row w s p))
        → HasRowOf w z (suc n) (entry_row w s p)
    go (yes l) rest =
        let r = rest l (omega arith) h in
        (length (stable_history w z) + r.0, omega (arith, r.1, shards-length w z n), later_row w z n r.0 ∙ r.2)
    go (no l) rest =
        let same : s ≡ z = omega arith in
        let in-first : p < length (stable_history w z) = rw same at h in
        (p, omega (arith, shards-length w z n), rw same (first_row w z n p in-first))

-- ---- the order

rows_ordered : (w : List ℕ) (z n i j : ℕ) → i < j → j < length (shard_rows w z n) → Before (shards_row w z n i) (shards_row w z n j)
rows_ordered w z zero i j h l = absurd (no_row w z j l)
rows_ordered w z (suc n) i j h l = go (stands w z n i (omega arith)) (stands w z n j l) (rows_ordered w (suc z) n)
  where
    go :
        Stands w z n i → Stands w z n j
        → ((k m : ℕ) → k < m → m < length (shard_rows w (suc z) n) → Before (shards_row w (suc z) n k) (shards_row w (suc z) n m))
        → Before (shards_row w z (suc n) i) (shards_row w z (suc n) j)
    go (first a) (first b) rest = rw (first_row w z n i a, first_row w z n j b) (by_place refl h)
    go (first a) (later m f b) rest = rw (f, first_row w z n i a, later_row w z n m) (by_shard (rows_within w (suc z) n m b).least)
    go (later k e a) (first b) rest = absurd (omega arith)
    go (later k e a) (later m f b) rest = rw (e, f, later_row w z n k, later_row w z n m) (rest k m (omega arith) b)

-- ---- no two rows for one place

before_differs : {r s : Row} → Before r s → r.shard ≡ s.shard → r.place ≡ s.place → ⊥
before_differs (by_shard h) e f = omega arith
before_differs (by_place q h) e f = omega arith

rows_once : (w : List ℕ) (z n i j : ℕ) → i < length (shard_rows w z n) → j < length (shard_rows w z n)
    → (shards_row w z n i).shard ≡ (shards_row w z n j).shard → (shards_row w z n i).place ≡ (shards_row w z n j).place → i ≡ j
rows_once w z n i j a b e f =
    elim (dec_lt i j) [
      | yes l ↦ absurd (before_differs (rows_ordered w z n i j l b) e f)
      | no l ↦
          elim (dec_lt j i) [
            | yes m ↦ absurd (before_differs (rows_ordered w z n j i m a) (sym e) (sym f))
            | no m ↦ omega arith
          ]
    ]

-- ---- all rows

rows_sound : (w : List ℕ) (i : ℕ) → i < length (rows w) → IsEntryOf w (row_at w i)
unfolding rows row_at
rows_sound w i h =
    let r = rows_within w 0 (shards_of (length w)) i h in
    record { shard = omega (arith, r.below); place = r.place; entry = r.entry }

rows_complete : (w : List ℕ) (z p : ℕ) → z < shards_of (length w) → p < length (stable_history w z) → HasRow w (entry_row w z p)
unfolding rows row_at
rows_complete w z p a h =
    let r = each_has_row w 0 (shards_of (length w)) z p (omega arith) (omega arith) h in
    record { at = r.0; below = r.1; row = r.2 }

pub each_once : EachOnceClaim
unfolding rows row_at
each_once w =
    record {
      sound = rows_sound w;
      complete = rows_complete w;
      ordered = rows_ordered w 0 (shards_of (length w));
      once = rows_once w 0 (shards_of (length w));
    }
