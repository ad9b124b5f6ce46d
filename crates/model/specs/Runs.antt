-- The runs of the third demand: "one accepted setup and then a list, of any length and also empty, of single steps and log runs, with any arguments,
-- logs and budgets, refused ones included. All are lent that one state whole, as the call before left it".
use Rattle.std.specs.Prelude.{ℕ, zero, suc, List, [], ◌∷◌, ◌++◌}
use Rattle.types.specs.declared.step.Step.{Step}
use Rattle.model.specs.Steps.{rejection, after}
use Rattle.model.specs.Replay.{replayed, after_replay}

-- a single step, or a replay of a log with a budget
pub data Call : Type 0 where
  single : Step → Call
  replay : List ℕ → ℕ → Call

-- the steps that a call tries: "A log run stands for the steps it tries, in order"
unfoldable pub tried_by : List ℕ → Call → List Step
tried_by w (single s) = s ∷ []
tried_by w (replay log budget) = replayed w log budget

-- the state that a call leaves, as the contracts of step and replay have it
unfoldable pub left_by : List ℕ → Call → List ℕ
left_by w (single s) = after w s
left_by w (replay log budget) = after_replay w log budget

-- a step that was tried, "with the answer that the same step gives when called singly on the state met there", and the state after it
pub record Moment : Type 0 where
  pub step : Step
  pub answer : ℕ
  pub state : List ℕ

unfoldable pub moments : List ℕ → List Step → List Moment
moments w [] = []
moments w (s ∷ ss) = record { step = s; answer = rejection w s; state = after w s } ∷ moments (after w s) ss

-- every step that the calls try, in order
unfoldable pub played : List ℕ → List Call → List Moment
played w [] = []
played w (c ∷ cs) = moments w (tried_by w c) ++ played (left_by w c) cs

-- the state at moment n, which is after the first n steps: moment 0 is after setup; past the last step the last state stays
unfoldable pub state_at : List ℕ → List Moment → ℕ → List ℕ
state_at w ms zero = w
state_at w [] (suc n) = w
state_at w (m ∷ ms) (suc n) = state_at m.state ms n

-- the answer of step n, counted from 0, which is tried at moment n and leads to moment n + 1; 0 where there is none
unfoldable pub answer_at : List Moment → ℕ → ℕ
answer_at [] n = 0
answer_at (m ∷ ms) zero = m.answer
answer_at (m ∷ ms) (suc n) = answer_at ms n
