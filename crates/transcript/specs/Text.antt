-- The text in parts, and what writing it answers and leaves.
use Rattle.types.specs.Rejections.{Written, answered}
use Rattle.std.specs.Prelude.{ℕ, cond, List, [], ◌∷◌, ◌++◌, leb, eqb, length, drop}
use Rattle.model.specs.Checks.{first_of, ◌or_else◌}
use Rattle.model.specs.Log.{read_log}
use Rattle.model.specs.Results.{count_beside}
use Rattle.model.specs.Transcript.{decimal, spaced, newline, step_lines, program_budget}

-- ---- what the text function answers and leaves, for a text and an output

-- 8 where the output is too short
unfoldable pub text_rejection : List ℕ → List ℕ → ℕ
text_rejection out text = first_of (leb (length text) (length out) or_else 8 ∷ [])

-- the text's length, 0 at a rejection
unfoldable pub text_count : List ℕ → List ℕ → ℕ
text_count out text = count_beside (text_rejection out text) text

-- both as one answer
unfoldable pub text_writing : List ℕ → List ℕ → Written
text_writing out text = answered (text_rejection out text) (length text)

-- "Any lent output keeps what lies past the part written"; a rejection leaves it untouched
unfoldable pub after_text : List ℕ → List ℕ → List ℕ
after_text out text = cond (eqb (text_rejection out text) 0) (text ++ drop (length text) out) out

-- ---- the parts

-- the line of a step
unfoldable pub step_line : ℕ → ℕ → ℕ → List ℕ
step_line n kind answer = decimal n ++ (spaced kind ++ (spaced answer ++ newline))

-- the lines of the steps of a log, tried on a state that is known to be well-formed
unfoldable pub run_lines : List ℕ → List ℕ → List ℕ
run_lines w log = step_lines 0 w (read_log program_budget log).steps
