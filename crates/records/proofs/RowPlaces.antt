-- Where each row stands among the rows of shards: those of the first shard by place, then those of the others. Assumes nothing.
use Prim.Native.Nat.{ℕ, zero, suc, ◌+◌, ◌-◌, ◌<◌}
use native.Mathlib.Nat.{zero-add, add-zero}
use native.Mathlib.Decide.{dec_lt}
use native.Mathlib.Omega.{arith}
use mathlib.Core.Path.{◌≡◌, refl, ap, ◌∙◌}
use mathlib.Core.List.{List, [], ◌∷◌}
use lib.ListN.{length, get_or, length-append, get_or-append}
use lib.Seq.{get_or-append-add}
use Rattle.model.specs.StableHistory.{stable_history}
use Rattle.csv_rows.specs.Rows.{Row, row_of, history_rows, shard_rows}

-- ---- a history

history_length : (z p : ℕ) (es : List ℕ) → length (history_rows z p es) ≡ length es
unfolding history_rows
history_length z p [] = refl
history_length z p (e ∷ es) = ap suc (history_length z (suc p) es)

history_row : (z p : ℕ) (es : List ℕ) (i : ℕ) (d : Row) → i < length es → get_or (history_rows z p es) i d ≡ row_of z (p + i) (get_or es i 0)
unfolding history_rows
history_row z p [] i d h = absurd (omega arith)
history_row z p (e ∷ es) zero d h = rw (add-zero p)
history_row z p (e ∷ es) (suc i) d h =
    let next : suc p + i ≡ p + suc i = omega arith in
    history_row z (suc p) es i d (omega arith) ∙ ap (λ (q : ℕ). row_of z q (get_or es i 0)) next

-- ---- several shards

-- row i of n shards, from shard z on
abbrev pub shards_row : List ℕ → ℕ → ℕ → ℕ → Row
shards_row w z n i = get_or (shard_rows w z n) i (row_of 0 0 0)

-- the row of entry p of shard z
abbrev pub entry_row : List ℕ → ℕ → ℕ → Row
entry_row w z p = row_of z p (get_or (stable_history w z) p 0)

module _ (w : List ℕ) (z : ℕ) where
  pub no_row : (i : ℕ) → i < length (shard_rows w z zero) → ⊥
  unfolding shard_rows
  no_row i h = omega arith

  module _ (n : ℕ) where
    pub shards-length : length (shard_rows w z (suc n)) ≡ length (stable_history w z) + length (shard_rows w (suc z) n)
    unfolding shard_rows
    shards-length =
        length-append (history_rows z 0 (stable_history w z)) (shard_rows w (suc z) n)
        ∙ ap (λ (k : ℕ). k + length (shard_rows w (suc z) n)) (history_length z 0 (stable_history w z))

    pub first_row : (i : ℕ) → i < length (stable_history w z) → shards_row w z (suc n) i ≡ entry_row w z i
    unfolding shard_rows
    first_row i h =
        get_or-append (history_rows z 0 (stable_history w z)) (shard_rows w (suc z) n) (row_of 0 0 0) i
        (omega (arith, history_length z 0 (stable_history w z)))
        ∙ history_row z 0 (stable_history w z) i (row_of 0 0 0) h ∙ rw (zero-add i)

    pub later_row : (k : ℕ) → shards_row w z (suc n) (length (stable_history w z) + k) ≡ shards_row w (suc z) n k
    unfolding shard_rows
    later_row k =
        rw (← history_length z 0 (stable_history w z))
        (get_or-append-add (history_rows z 0 (stable_history w z)) (shard_rows w (suc z) n) k (row_of 0 0 0))

    -- a row of the first shard, or row k of the others
    pub data Stands (i : ℕ) : Type 0 where
      first : i < length (stable_history w z) → Stands i
      later : (k : ℕ) → i ≡ length (stable_history w z) + k → k < length (shard_rows w (suc z) n) → Stands i

    pub stands : (i : ℕ) → i < length (shard_rows w z (suc n)) → Stands i
    stands i h =
        elim (dec_lt i (length (stable_history w z))) [
          | yes l ↦ first l
          | no l ↦ later (i - length (stable_history w z)) (omega arith) (omega (arith, shards-length))
        ]
