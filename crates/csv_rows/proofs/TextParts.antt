-- The text in parts, as the loops take it: the rows of a history one by one, and those of a state shard by shard. Assumes nothing.
use Prim.Native.Nat.{ℕ, zero, suc, ◌+◌, ◌≤◌, ◌<◌}
use native.Mathlib.Decide.{dec_lt}
use native.Mathlib.Omega.{arith}
use native.Mathlib.Nat.{zero-add}
use mathlib.Core.Path.{◌≡◌, refl, sym, ◌∙◌}
use mathlib.Core.List.{List, [], ◌∷◌, ◌++◌, append-nil, append_assoc}
use lib.ListN.{length, length-append, get_or, take}
use Rattle.decimal_text.proofs.Appending.{appending}
use Rattle.csv_rows.specs.Rows.{history_rows, shard_rows}
use Rattle.csv_rows.specs.Csv.{rows_text}
use Rattle.csv_rows.specs.Room.{entry_text, history_text, shard_text}
use Rattle.csv_rows.proofs.RowTexts.{shards_first}

-- ---- a history

pub history_none : (z : ℕ) → history_text z [] ≡ []
unfolding history_text rows_text history_rows
history_none z = refl

-- the first i + 1 rows are the first i and one more
rows_more : (z p : ℕ) (es : List ℕ) (i : ℕ) → i < length es
    → rows_text (history_rows z p (take (i + 1) es)) ≡ rows_text (history_rows z p (take i es)) ++ entry_text z (p + i) (get_or es i 0)
unfolding rows_text history_rows entry_text
rows_more z p [] i h = absurd (omega arith)
rows_more z p (e ∷ es) zero h = let here : p + 0 ≡ p = omega arith in rw here (append-nil (entry_text z p e))
rows_more z p (e ∷ es) (suc i) h =
    let next : suc i + 1 ≡ suc (i + 1) = omega arith in
    let here : p + suc i ≡ suc p + i = omega arith in
    rw (next, here, rows_more z (suc p) es i (omega arith))
    (sym (append_assoc (entry_text z p e) (rows_text (history_rows z (suc p) (take i es))) (entry_text z (suc p + i) (get_or es i 0))))

pub history_more : (z : ℕ) (es : List ℕ) (i : ℕ) → i < length es
    → history_text z (take (i + 1) es) ≡ history_text z (take i es) ++ entry_text z i (get_or es i 0)
unfolding history_text
history_more z es i h = rw (zero-add i) at (rows_more z 0 es i h)

-- they have room where all have
rows_room : (z p : ℕ) (es : List ℕ) (i : ℕ) → i < length es
    → length (rows_text (history_rows z p (take i es))) + length (entry_text z (p + i) (get_or es i 0)) ≤ length (rows_text (history_rows z p es))
unfolding rows_text history_rows entry_text
rows_room z p [] i h = absurd (omega arith)
rows_room z p (e ∷ es) zero h =
    let here : p + 0 ≡ p = omega arith in
    rw (here, length-append (entry_text z p e) (rows_text (history_rows z (suc p) es))) (omega arith)
rows_room z p (e ∷ es) (suc i) h =
    let here : p + suc i ≡ suc p + i = omega arith in
    let first = length-append (entry_text z p e) (rows_text (history_rows z (suc p) (take i es))) in
    let all = length-append (entry_text z p e) (rows_text (history_rows z (suc p) es)) in
    rw (here, first, all)
    (omega (arith, rows_room z (suc p) es i (omega arith)))

pub history_room : (z : ℕ) (es : List ℕ) (i : ℕ) → i < length es
    → length (history_text z (take i es)) + length (entry_text z i (get_or es i 0)) ≤ length (history_text z es)
unfolding history_text
history_room z es i h = rw (zero-add i) at (rows_room z 0 es i h)

-- with these the check finds by itself that a loop over a history takes its rows one by one
pub ruleset history_parts = (appending, history_none, history_more, history_room)

-- ---- a state

-- the rows of the first n shards
abbrev pub first_shards : List ℕ → ℕ → List ℕ
first_shards w n = rows_text (shard_rows w 0 n)

pub shards_none : (w : List ℕ) → first_shards w 0 ≡ []
unfolding rows_text shard_rows
shards_none w = refl

rows_of_more : (w : List ℕ) (z i : ℕ) → rows_text (shard_rows w z (i + 1)) ≡ rows_text (shard_rows w z i) ++ shard_text w (z + i)
unfolding rows_text shard_rows
rows_of_more w z zero =
    let here : z + 0 ≡ z = omega arith in
    rw here (shards_first w z 0 ∙ append-nil (shard_text w z))
rows_of_more w z (suc i) =
    let next : suc i + 1 ≡ suc (i + 1) = omega arith in
    let here : z + suc i ≡ suc z + i = omega arith in
    rw (next, here, shards_first w z (i + 1), shards_first w z i, rows_of_more w (suc z) i)
    (sym (append_assoc (shard_text w z) (rows_text (shard_rows w (suc z) i)) (shard_text w (suc z + i))))

pub shards_more : (w : List ℕ) (i : ℕ) → first_shards w (i + 1) ≡ first_shards w i ++ shard_text w i
shards_more w i = rw (zero-add i) at (rows_of_more w 0 i)

-- the first shards' rows are no longer than those of more of them
pub shards_room : (w : List ℕ) (i n : ℕ) → i < n → length (first_shards w i) + length (shard_text w i) ≤ length (first_shards w n)
shards_room w i zero h = absurd (omega arith)
shards_room w i (suc n) h =
    let next : n + 1 ≡ suc n = omega arith in
    let one : length (first_shards w (suc n)) ≡ length (first_shards w n) + length (shard_text w n) = rw (← next, shards_more w n) (simp length-append) in
    elim (dec_lt i n) [
      | yes l ↦ omega (arith, one, shards_room w i n l)
      | no l ↦ let same : i ≡ n = omega arith in rw same (omega (arith, one))
    ]

pub ruleset shard_parts = (appending, shards_none, shards_more, shards_room)
