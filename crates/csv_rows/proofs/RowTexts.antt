-- The text of rows: part by part, and how long it is. Assumes nothing.
use Prim.Native.Nat.{ℕ, suc, ◌+◌, ◌*◌, ◌≤◌}
use native.Mathlib.Omega.{arith}
use mathlib.Core.Path.{◌≡◌, refl, sym}
use mathlib.Core.Bool.{Bool, true, false}
use mathlib.Core.List.{List, [], ◌∷◌, ◌++◌, append_assoc}
use lib.ListN.{length, length-append}
use Rattle.model.specs.Entries.{is_issue}
use Rattle.model.specs.StableHistory.{stable_history}
use Rattle.model.specs.Transcript.{decimal}
use Rattle.decimal_text.proofs.DecimalLaws.{decimal_most}
use Rattle.csv_rows.specs.Format.{comma, line_break, row_text}
use Rattle.csv_rows.specs.Rows.{Row, history_rows, shard_rows}
use Rattle.csv_rows.specs.Csv.{take_word, issue_word, kind_name, row_fields, rows_text}
use Rattle.csv_rows.specs.Room.{entry_text, history_text, shard_text}

-- ---- one row

pub issue_name : (e : ℕ) → is_issue e ≡ true → kind_name e ≡ issue_word
unfolding kind_name
issue_name e q = rw q

pub take_name : (e : ℕ) → is_issue e ≡ false → kind_name e ≡ take_word
unfolding kind_name
take_name e q = rw q

pub kind_most : (e : ℕ) → length (kind_name e) ≤ 5
kind_most e = go (is_issue e) refl
  where
    go : (t : Bool) → is_issue e ≡ t → length (kind_name e) ≤ 5
    go true q = rw (issue_name e q) (omega arith)
    go false q = rw (take_name e q) (omega arith)

-- the row as it is written: two numbers with their commas, the kind, a comma, the entry, the line break
abbrev pub field : ℕ → List ℕ
field n = decimal n ++ (comma ∷ [])

abbrev pub from_entry : ℕ → List ℕ
from_entry e = decimal e ++ line_break

abbrev pub from_kind : ℕ → List ℕ
from_kind e = kind_name e ++ ((comma ∷ []) ++ from_entry e)

pub entry_parts : (z p e : ℕ) → entry_text z p e ≡ field z ++ (field p ++ from_kind e)
unfolding entry_text row_text row_fields
entry_parts z p e =
    rw (append_assoc (decimal z) (comma ∷ []) (field p ++ from_kind e), append_assoc (decimal p) (comma ∷ []) (from_kind e))

pub entry_length : (z p e : ℕ)
    → length (entry_text z p e) ≡ length (decimal z) + length (decimal p) + length (kind_name e) + length (decimal e) + 5
entry_length z p e = rw (entry_parts z p e) (simp length-append (omega arith))

-- at most three numbers of 20 digits, and 10 bytes
pub entry_most : (z p e : ℕ) → length (entry_text z p e) ≤ 70
entry_most z p e = omega (arith, entry_length z p e, kind_most e, decimal_most z, decimal_most p, decimal_most e)

-- ---- several rows

pub rows_append : (rs ss : List Row) → rows_text (rs ++ ss) ≡ rows_text rs ++ rows_text ss
unfolding rows_text
rows_append [] ss = refl
rows_append (r ∷ rs) ss = rw (rows_append rs ss) (sym (append_assoc (row_text (row_fields r)) (rows_text rs) (rows_text ss)))

-- the first row of a history, and the others
pub history_first : (z p e : ℕ) (es : List ℕ) → rows_text (history_rows z p (e ∷ es)) ≡ entry_text z p e ++ rows_text (history_rows z (suc p) es)
unfolding rows_text history_rows entry_text
history_first z p e es = refl

-- however many rows, from whatever place on
rows_most : (z p : ℕ) (es : List ℕ) → length (rows_text (history_rows z p es)) ≤ 70 * length es
unfolding rows_text history_rows
rows_most z p [] = omega arith
rows_most z p (e ∷ es) =
    rw (history_first z p e es, length-append (entry_text z p e) (rows_text (history_rows z (suc p) es)))
    (omega (arith, entry_most z p e, rows_most z (suc p) es))

pub history_bytes : (z : ℕ) (es : List ℕ) → length (history_text z es) ≤ 70 * length es
unfolding history_text
history_bytes z es = rows_most z 0 es

-- the rows of the first shard, and those of the others
pub shards_first : (w : List ℕ) (z n : ℕ) → rows_text (shard_rows w z (suc n)) ≡ shard_text w z ++ rows_text (shard_rows w (suc z) n)
unfolding shard_rows shard_text history_text
shards_first w z n = rows_append (history_rows z 0 (stable_history w z)) (shard_rows w (suc z) n)
