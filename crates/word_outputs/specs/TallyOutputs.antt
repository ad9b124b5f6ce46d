-- Replay with outputs for its report and its tally. Request A7: seventeen words, "one for each box, and one for steps with no box to name". Where the
-- output of the tally has no room for them, the answer is 8 and nothing is tried; all else is as without it.
use Rattle.std.specs.Prelude.{ℕ, cond, ◌&&◌, List, leb, eqb, length}
use Rattle.std.proofs.lemmas.List.Edits.{sets}
use Rattle.model.specs.Replay.{replay_rejection, replayed}
use Rattle.tallies.specs.Tally.{tally_of}
use Rattle.word_outputs.specs.TallyWords.{tally_words}
use Rattle.word_outputs.specs.Replays.{replay_answer, state_after, report_after}

-- the answer, and what is left of the state and of the outputs
unfoldable pub tally_answer : List ℕ → List ℕ → ℕ → List ℕ → List ℕ → ℕ
tally_answer w log budget out tally = cond (leb 17 (length tally)) (replay_answer w log budget out) 8

unfoldable pub tally_state_after : List ℕ → List ℕ → ℕ → List ℕ → List ℕ → List ℕ
tally_state_after w log budget out tally = cond (leb 17 (length tally)) (state_after w log budget out) w

unfoldable pub tally_report_after : List ℕ → List ℕ → ℕ → List ℕ → List ℕ → List ℕ
tally_report_after w log budget out tally = cond (leb 17 (length tally)) (report_after w log budget out) out

unfoldable pub tally_words_after : List ℕ → List ℕ → ℕ → List ℕ → List ℕ → List ℕ
tally_words_after w log budget out tally =
    cond (leb 17 (length tally) && leb 4 (length out) && eqb (replay_rejection w) 0) (sets tally 0 (tally_words (tally_of w (replayed w log budget)))) tally
