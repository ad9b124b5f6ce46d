-- Rows of fields as text, by RFC 4180. Its rules on quotes are for fields that have a quote, a comma or a line end; `Plain.antt` says that no field
-- here has one, so all stand without quotes.
use Rattle.std.specs.Prelude.{ℕ, Bool, true, ◌&&◌, ◌||◌, List, [], ◌∷◌, ◌++◌, leb}
use Rattle.model.specs.Tests.{all_of}

-- COMMA and CRLF of its grammar
abbrev pub comma : ℕ
comma = 44

abbrev pub line_break : List ℕ
line_break = 13 ∷ 10 ∷ []

-- rule 4: "one or more fields, separated by commas .. The last field in the record must not be followed by a comma"; rule 1: "delimited by a line
-- break (CRLF)"
unfoldable pub row_text : List (List ℕ) → List ℕ
row_text [] = line_break
row_text (f ∷ []) = f ++ line_break
row_text (f ∷ (g ∷ fs)) = f ++ (comma ∷ row_text (g ∷ fs))

-- TEXTDATA of its grammar, the bytes of a field without quotes: "%x20-21 / %x23-2B / %x2D-7E"
unfoldable pub is_text_data : ℕ → Bool
is_text_data b = (leb 32 b && leb b 33) || (leb 35 b && leb b 43) || (leb 45 b && leb b 126)

unfoldable pub are_plain : List (List ℕ) → Bool
are_plain [] = true
are_plain (f ∷ fs) = all_of is_text_data f && are_plain fs
