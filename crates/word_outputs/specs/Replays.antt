-- Replay with an output for its report. Where the output has no room for four words, the answer is 8 and nothing is tried.
use Rattle.std.specs.Prelude.{ℕ, cond, ◌&&◌, List, [], ◌∷◌, leb, eqb, length}
use Rattle.std.proofs.lemmas.List.Edits.{sets}
use Rattle.model.specs.Replay.{rejected_in, replay_rejection, replayed, after_replay}
use Rattle.model.specs.Results.{replay_number, replay_code, replay_bytes}

-- the four words of a report: how the replay stopped, steps tried, steps rejected, bytes
unfoldable pub report_words : List ℕ → List ℕ → ℕ → List ℕ
report_words w log budget =
    replay_code w log budget
    ∷ length (replayed w log budget)
    ∷ rejected_in w (replayed w log budget)
    ∷ replay_bytes w log budget
    ∷ []

-- the answer, and what is left of the state and of the output: a report is written where a replay was made
unfoldable pub replay_answer : List ℕ → List ℕ → ℕ → List ℕ → ℕ
replay_answer w log budget out = cond (leb 4 (length out)) (replay_number w log budget) 8

unfoldable pub state_after : List ℕ → List ℕ → ℕ → List ℕ → List ℕ
state_after w log budget out = cond (leb 4 (length out)) (after_replay w log budget) w

unfoldable pub report_after : List ℕ → List ℕ → ℕ → List ℕ → List ℕ
report_after w log budget out = cond (leb 4 (length out) && eqb (replay_rejection w) 0) (sets out 0 (report_words w log budget)) out
