-- The text for spreadsheets, with an output for its length.
use Rattle.std.specs.Prelude.{ℕ, List, length}
use Rattle.csv_rows.specs.Csv.{csv, csv_rejection, after_csv}
use Rattle.word_outputs.specs.Counts.{counted_answer, counted_out, count_after}

-- the answer, and what is left of the two outputs
unfoldable pub csv_answer : List ℕ → List ℕ → List ℕ → ℕ
csv_answer w out count = counted_answer count (csv_rejection w out)

unfoldable pub csv_after : List ℕ → List ℕ → List ℕ → List ℕ
csv_after w out count = counted_out count (after_csv w out) out

unfoldable pub csv_length_after : List ℕ → List ℕ → List ℕ → List ℕ
csv_length_after w out count = count_after count (csv_rejection w out) (length (csv w))
