-- The program's text for a log, with an output for its length.
use Rattle.std.specs.Prelude.{ℕ, List, length}
use Rattle.model.specs.Transcript.{transcript}
use Rattle.transcript.specs.Text.{text_rejection, after_text}
use Rattle.word_outputs.specs.Counts.{counted_answer, counted_out, count_after}

-- the answer, and what is left of the two outputs
unfoldable pub text_answer : List ℕ → List ℕ → List ℕ → ℕ
text_answer log out count = counted_answer count (text_rejection out (transcript log))

unfoldable pub text_after : List ℕ → List ℕ → List ℕ → List ℕ
text_after log out count = counted_out count (after_text out (transcript log)) out

unfoldable pub length_after : List ℕ → List ℕ → List ℕ → List ℕ
length_after log out count = count_after count (text_rejection out (transcript log)) (length (transcript log))
