-- Steps read and written with an output for words. Where that output is too short, the answer is 8 and nothing is read or written.
use Rattle.std.specs.Prelude.{ℕ, cond, List, leb, eqb, length, drop}
use Rattle.std.proofs.lemmas.List.Edits.{sets}
use Rattle.types.specs.declared.step.Step.{Step}
use Rattle.model.specs.Writer.{step_bytes, write_rejection, after_writing}
use Rattle.model.specs.Results.{read_rejection, step_read, next_read}
use Rattle.word_outputs.specs.WordOutputs.{step_words}
use Rattle.word_outputs.specs.Counts.{counted_answer, counted_out, count_after}

-- the reader's answer, and what is left of its output: the words are written where the answer is 0
unfoldable pub read_answer : List ℕ → ℕ → List ℕ → ℕ
read_answer log at step = cond (leb 6 (length step)) (read_rejection (drop at log)) 8

unfoldable pub step_after : List ℕ → ℕ → List ℕ → List ℕ
step_after log at step = cond (eqb (read_answer log at step) 0) (sets step 0 (step_words (step_read (drop at log)) (next_read log at))) step

-- the writer's answer, and what is left of its two outputs
unfoldable pub write_answer : List ℕ → ℕ → Step → List ℕ → ℕ
write_answer out at s count = counted_answer count (write_rejection out at s)

unfoldable pub out_after : List ℕ → ℕ → Step → List ℕ → List ℕ
out_after out at s count = counted_out count (after_writing out at s) out

unfoldable pub byte_count_after : List ℕ → ℕ → Step → List ℕ → List ℕ
byte_count_after out at s count = count_after count (write_rejection out at s) (length (step_bytes s))
