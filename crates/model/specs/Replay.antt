-- The log run, here replay (document 01, "Log and run": "The run takes state, log and a budget").
use Rattle.std.specs.Prelude.{ℕ, ◌+◌, cond, List, [], ◌∷◌, eqb, length, Result}
use Rattle.types.specs.declared.step.Step.{Step}
use Rattle.types.specs.declared.Report.{Report}
use Rattle.types.specs.declared.rejection.Rejection.{Rejection}
use Rattle.types.specs.Rejections.{answered}
use Rattle.model.specs.Checks.{first_of, ◌or_else◌}
use Rattle.model.specs.Layout.{is_state_length}
use Rattle.model.specs.WellFormed.{well_formed}
use Rattle.model.specs.Steps.{rejection, after}
use Rattle.model.specs.Log.{read_log}

-- the state after several steps, each tried on what the one before left
unfoldable pub after_all : List ℕ → List Step → List ℕ
after_all w [] = w
after_all w (s ∷ ss) = after_all (after w s) ss

-- how many of them are rejected: "A refused step counts and the run goes on."
unfoldable pub rejected_in : List ℕ → List Step → ℕ
rejected_in w [] = 0
rejected_in w (s ∷ ss) = cond (eqb (rejection w s) 0) 0 1 + rejected_in (after w s) ss

-- "First 1, then 9, with nothing tried."
unfoldable pub replay_rejection : List ℕ → ℕ
replay_rejection w = first_of (is_state_length (length w) or_else 1 ∷ well_formed w or_else 9 ∷ [])

-- the steps that a replay tries
unfoldable pub replayed : List ℕ → List ℕ → ℕ → List Step
replayed w log budget = cond (eqb (replay_rejection w) 0) (read_log budget log).steps []

-- "It returns how it stopped, steps tried, steps refused and bytes of whole steps read."
unfoldable pub report : List ℕ → List ℕ → ℕ → Result Report Rejection
report w log budget =
    answered (replay_rejection w)
    (record {
      stop = (read_log budget log).stop;
      tried = length (read_log budget log).steps;
      rejected = rejected_in w (read_log budget log).steps;
      bytes = (read_log budget log).bytes;
    })

-- "Earlier steps' effects remain."
unfoldable pub after_replay : List ℕ → List ℕ → ℕ → List ℕ
after_replay w log budget = after_all w (replayed w log budget)
