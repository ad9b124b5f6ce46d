-- The proof of `specs/KeptRows.antt`, from the growth of stable histories: an entry keeps its place, so its row stays. Assumes nothing.
use Prim.Native.Nat.{ℕ}
use native.Mathlib.Omega.{arith}
use mathlib.Core.Path.{◌≡◌, sym, ap, ◌∙◌}
use mathlib.Core.List.{List, []}
use lib.ListN.{length}
use Rattle.model.specs.Layout.{shards_of}
use Rattle.model.specs.StableHistory.{stable_history}
use Rattle.model.specs.Prefixes.{Begins}
use Rattle.model.specs.Runs.{Moment, played, state_at}
use Rattle.model.specs.Setup.{after_setup}
use Rattle.model.specs.OneList.{shards}
use Rattle.model.specs.StableGrowth.{StableGrows, StableGrowth}
use Rattle.model.proofs.Prefixes.{begins_le, begins_get_d}
use Rattle.model.proofs.SetupRuns.{from_setup}
use Rattle.model.proofs.Moments.{shards_at}
use Rattle.model.proofs.StableGrowth.{stable_growth}
use Rattle.csv_rows.specs.Rows.{Row, row_of, row_at}
use Rattle.records.specs.Once.{IsEntryOf, HasRow}
use Rattle.records.specs.KeptRows.{RowsKept, KeptRows}
use Rattle.records.proofs.EachOnce.{each_once}

-- an entry of a history has its row wherever the history goes on
stays : {w w' : List ℕ} (r : Row) → IsEntryOf w r → shards_of (length w') ≡ shards_of (length w)
    → Begins (stable_history w r.shard) (stable_history w' r.shard) → HasRow w' r
stays {w} {w'} r s e b =
    let x = (each_once w').complete r.shard r.place (omega (arith, e, s.shard)) (omega (arith, s.place, begins_le b)) in
    let same = s.entry ∙ begins_get_d b r.place s.place in
    record { at = x.at; below = x.below; row = x.row ∙ ap (row_of r.shard r.place) (sym same) }

module _ (w : List ℕ) (ms : List Moment) (grows : StableGrows w ms) (long : (n : ℕ) → shards (state_at w ms n) ≡ shards w) where
  kept_over : RowsKept w ms
  unfolding RowsKept StableGrows shards
  kept_over m n i h l =
      let s = (each_once (state_at w ms m)).sound i l in
      stays (row_at (state_at w ms m) i) s (long n ∙ sym (long m)) (grows (row_at (state_at w ms m) i).shard m n (omega (arith, s.shard, long m)) h)

pub kept_rows : KeptRows
unfolding KeptRows StableGrowth
kept_rows w p e calls =
    let start = after_setup w p in
    kept_over start (played start calls) (stable_growth w p e calls)
    (shards_at (from_setup w p e calls) (λ z n. []))
