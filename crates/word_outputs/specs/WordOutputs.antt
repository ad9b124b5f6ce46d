-- The words of what was answered: none where the answer is a rejection.
use Rattle.std.specs.Prelude.{ℕ, List, [], ◌∷◌, Result, Ok, Err}
use Rattle.types.specs.declared.step.Step.{Step}
use Rattle.types.specs.declared.Report.{Report}
use Rattle.types.specs.declared.rejection.Rejection.{Rejection}
use Rattle.types.specs.Rejections.{Written}
use Rattle.model.specs.Results.{stop_code}

-- the six words of a step and the position after it, all 0 where no bytes are left
abbrev pub step_words : Step → ℕ → List ℕ
step_words s next = s.kind ∷ s.a ∷ s.b ∷ s.c ∷ s.d ∷ next ∷ []

-- the four words of a report
abbrev pub words_of : Report → List ℕ
words_of r = stop_code r.stop ∷ r.tried ∷ r.rejected ∷ r.bytes ∷ []

abbrev pub reported_words : Result Report Rejection → List ℕ
reported_words (Ok r) = words_of r
reported_words (Err r) = []

-- the word of a count
abbrev pub count_word : Written → List ℕ
count_word (Ok n) = n ∷ []
count_word (Err r) = []
