-- The text for spreadsheets (document 02, A1), and what writing it answers and leaves.
use Rattle.types.specs.Rejections.{Written, answered}
use Rattle.std.specs.Prelude.{ℕ, cond, List, [], ◌∷◌, ◌++◌, length}
use Rattle.model.specs.Checks.{first_of, ◌or_else◌}
use Rattle.model.specs.Entries.{is_issue}
use Rattle.model.specs.Layout.{is_state_length}
use Rattle.model.specs.WellFormed.{well_formed}
use Rattle.model.specs.Results.{count_beside}
use Rattle.model.specs.Transcript.{decimal, zone_word}
use Rattle.stable_entries.specs.Listing.{has_room, after_listing_of}
use Rattle.csv_rows.specs.Format.{row_text}
use Rattle.csv_rows.specs.Rows.{Row, rows}

-- ---- the text

-- the words of the header: `zone` as in the print, `place`, `kind`, `entry`
abbrev pub place_word : List ℕ
place_word = 112 ∷ 108 ∷ 97 ∷ 99 ∷ 101 ∷ []

abbrev pub kind_word : List ℕ
kind_word = 107 ∷ 105 ∷ 110 ∷ 100 ∷ []

abbrev pub entry_word : List ℕ
entry_word = 101 ∷ 110 ∷ 116 ∷ 114 ∷ 121 ∷ []

-- the words of the kinds: `take`, `issue`
abbrev pub take_word : List ℕ
take_word = 116 ∷ 97 ∷ 107 ∷ 101 ∷ []

abbrev pub issue_word : List ℕ
issue_word = 105 ∷ 115 ∷ 115 ∷ 117 ∷ 101 ∷ []

-- "kind is `take` or `issue`": the name of an entry's kind
unfoldable pub kind_name : ℕ → List ℕ
kind_name e = cond (is_issue e) issue_word take_word

-- "The header row is `zone,place,kind,entry`"
abbrev pub header : List (List ℕ)
header = zone_word ∷ place_word ∷ kind_word ∷ entry_word ∷ []

unfoldable pub row_fields : Row → List (List ℕ)
row_fields r = decimal r.shard ∷ decimal r.place ∷ kind_name r.entry ∷ decimal r.entry ∷ []

unfoldable pub rows_text : List Row → List ℕ
rows_text [] = []
rows_text (r ∷ rs) = row_text (row_fields r) ++ rows_text rs

unfoldable pub csv : List ℕ → List ℕ
csv w = row_text header ++ rows_text (rows w)

-- ---- what is answered and left, for a state and an output

-- "Checks are 1, 9, 8"
unfoldable pub csv_rejection : List ℕ → List ℕ → ℕ
csv_rejection w out = first_of (is_state_length (length w) or_else 1 ∷ well_formed w or_else 9 ∷ has_room (csv w) out ∷ [])

-- "the length is returned", 0 at a rejection
unfoldable pub csv_count : List ℕ → List ℕ → ℕ
csv_count w out = count_beside (csv_rejection w out) (csv w)

-- both as one answer
unfoldable pub csv_writing : List ℕ → List ℕ → Written
csv_writing w out = answered (csv_rejection w out) (length (csv w))

-- "Only the exact text is written"
unfoldable pub after_csv : List ℕ → List ℕ → List ℕ
after_csv w out = after_listing_of (csv_rejection w out) (csv w) out
