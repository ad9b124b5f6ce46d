-- What a row of the table says: answers of steps, words that change, bytes, counts.
use Rattle.std.specs.Prelude.{ℕ, ◌≡◌, List, [], ◌∷◌, length, replicate}
use Rattle.std.proofs.lemmas.List.Edits.{sets}
use Rattle.types.specs.declared.step.Step.{Step}
use Rattle.model.specs.Replay.{after_all, rejected_in, replayed}
use Rattle.model.specs.Writer.{step_bytes, write_rejection}
use Rattle.model.specs.Results.{read_rejection, step_read, bytes_read, count_beside, replay_number, replay_code, replay_bytes}
use Rattle.model.specs.Transcript.{program_start}
use Rattle.model.specs.Marked.{answers_from}
use Rattle.tallies.specs.Tally.{tally_of}
use Rattle.word_outputs.specs.TallyWords.{tally_words}

-- the answers of these steps, tried in turn after the program's setup
abbrev pub tried : List Step → List ℕ
tried ss = answers_from program_start ss

-- a state with other words from some places on
unfoldable pub changed : List ℕ → List (ℕ × List ℕ) → List ℕ
changed w [] = w
changed w (c ∷ cs) = changed (sets w c.0 c.1) cs

-- these steps, tried in turn on a state, leave just these words changed; and after the program's setup
abbrev pub LeavesOf : List ℕ → List Step → List (ℕ × List ℕ) → Type 0
LeavesOf w ss cs = after_all w ss ≡ changed w cs

abbrev pub Leaves : List Step → List (ℕ × List ℕ) → Type 0
Leaves ss cs = LeavesOf program_start ss cs

-- bytes read to this step, of so many bytes
abbrev pub Reads : List ℕ → Step → ℕ → Type 0
Reads bs s n = (read_rejection bs ≡ 0) × (step_read bs ≡ s) × (bytes_read bs ≡ n)

-- a step is written to the start of an output of so many bytes with this answer, and so many bytes
abbrev pub Writes : ℕ → Step → ℕ → ℕ → Type 0
Writes room s r n =
    (write_rejection (replicate room 0) 0 s ≡ r) × (count_beside (write_rejection (replicate room 0) 0 s) (step_bytes s) ≡ n)

-- a replay's number, how it stopped, steps tried, steps rejected, bytes
unfoldable pub replay_words : List ℕ → List ℕ → ℕ → List ℕ
replay_words w log budget =
    replay_number w log budget
    ∷ replay_code w log budget
    ∷ length (replayed w log budget)
    ∷ rejected_in w (replayed w log budget)
    ∷ replay_bytes w log budget
    ∷ []

-- seventeen counts, 0 but for these
unfoldable pub counts : List (ℕ × List ℕ) → List ℕ
counts cs = changed (replicate 17 0) cs

-- these steps, tried in turn after the program's setup, are counted so
abbrev pub Counted : List Step → List (ℕ × List ℕ) → Type 0
Counted ss cs = tally_words (tally_of program_start ss) ≡ counts cs
