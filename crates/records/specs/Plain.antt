-- No field has a comma, a quote or a line end, so none needs quotes (RFC 4180, rules 5 and 6); and all rows have as many fields as the header (rule 4).
-- It is proved in `proofs/PlainFields.antt` (`plain_fields`).
use Rattle.std.specs.Prelude.{◌≡◌, true, length}
use Rattle.csv_rows.specs.Format.{are_plain}
use Rattle.csv_rows.specs.Rows.{Row}
use Rattle.csv_rows.specs.Csv.{header, row_fields}

pub record PlainFields : Type 0 where
  pub first : are_plain header ≡ true
  pub row : (r : Row) → are_plain (row_fields r) ≡ true
  pub wide : (r : Row) → length (row_fields r) ≡ length header
