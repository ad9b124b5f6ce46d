-- No field of a row has a byte that would need quotes, and each row has as many fields as the header. Assumes nothing.
use Prim.Native.Nat.{ℕ, zero, suc, ◌+◌, ◌/◌, ◌%◌, ◌<◌}
use native.Mathlib.Omega.{arith}
use mathlib.Core.Path.{◌≡◌, refl}
use mathlib.Core.Bool.{Bool, true, false, cond, or-true}
use mathlib.Core.List.{[], ◌∷◌, ◌++◌}
use lib.Dec.{ltb}
use borrow.Author.Tests.{le-leb, ltb-true}
use Rattle.model.specs.Tests.{all_of}
use Rattle.model.specs.Entries.{is_issue}
use Rattle.model.specs.Transcript.{digits, decimal}
use Rattle.model.proofs.AllOf.{all_cons}
use Rattle.model.proofs.WellFormedParts.{all_append}
use Rattle.csv_rows.specs.Format.{is_text_data, are_plain}
use Rattle.csv_rows.specs.Rows.{Row}
use Rattle.csv_rows.specs.Csv.{kind_name, row_fields}
use Rattle.records.specs.Plain.{PlainFields}
use Rattle.csv_rows.proofs.RowTexts.{issue_name, take_name}

-- ---- numbers

digit_plain : (d : ℕ) → d < 10 → is_text_data (48 + d) ≡ true
unfolding is_text_data
digit_plain d h = rw (le-leb 45 (48 + d) (omega arith), le-leb (48 + d) 126 (omega arith), or-true)

one_plain : (d : ℕ) → d < 10 → all_of is_text_data ((48 + d) ∷ []) ≡ true
unfolding all_of
one_plain d h = all_cons is_text_data (48 + d) [] (digit_plain d h) refl

digits_plain : (k n : ℕ) → all_of is_text_data (digits k n) ≡ true
unfolding digits all_of
digits_plain zero n = refl
digits_plain (suc k) n = go (ltb n 10) refl (digits_plain k (n / 10))
  where
    go : (t : Bool) → ltb n 10 ≡ t → all_of is_text_data (digits k (n / 10)) ≡ true
        → all_of is_text_data (cond t ((48 + n) ∷ []) (digits k (n / 10) ++ ((48 + n % 10) ∷ []))) ≡ true
    go true e rest = one_plain n (ltb-true n 10 e)
    go false e rest = all_append is_text_data (digits k (n / 10)) ((48 + n % 10) ∷ []) rest (one_plain (n % 10) (omega arith))

decimal_plain : (n : ℕ) → all_of is_text_data (decimal n) ≡ true
unfolding decimal
decimal_plain n = digits_plain 20 n

-- ---- kinds

kind_plain : (e : ℕ) → all_of is_text_data (kind_name e) ≡ true
unfolding all_of is_text_data
kind_plain e = go (is_issue e) refl
  where
    go : (t : Bool) → is_issue e ≡ t → all_of is_text_data (kind_name e) ≡ true
    go true q = rw (issue_name e q)
    go false q = rw (take_name e q)

-- ---- rows

row_plain : (r : Row) → are_plain (row_fields r) ≡ true
unfolding are_plain row_fields
row_plain r = simp (decimal_plain, kind_plain)

pub plain_fields : PlainFields
unfolding are_plain all_of is_text_data row_fields
plain_fields = record { first = refl; row = row_plain; wide = λ r. refl }
