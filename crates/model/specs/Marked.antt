-- The marked cases of document 01 ("Edge cases (★ proved)") as one table and one claim. It is proved in `proofs/Marked.antt` (`marked_cases`).
use Rattle.std.specs.Prelude.{Err}
use Rattle.types.specs.declared.rejection.Rejection.TheVariants.{LogEnds, NumberForm}
use Rattle.model.specs.Log.{ReadStep, one_step}
use Rattle.std.specs.Prelude.{ℕ, zero, suc, ◌+◌, ◌^◌, ◌≡◌, List, [], ◌∷◌, ◌++◌, replicate}
use Rattle.types.specs.declared.step.Step.{Step}
use Rattle.model.specs.Entries.{issue}
use Rattle.model.specs.Steps.{rejection, after}
use Rattle.model.specs.Log.{read_step}
use Rattle.model.specs.Transcript.{program_start}

-- ---- steps of the seven kinds, by the numbers that they use

abbrev pub add : ℕ → ℕ → ℕ → Step
add z index e = record { kind = 1; a = z; b = index; c = e; d = 0 }

abbrev pub adopt : ℕ → ℕ → ℕ → Step
adopt z index h = record { kind = 2; a = z; b = index; c = h; d = 0 }

abbrev pub learn : ℕ → ℕ → ℕ → ℕ → Step
learn z index h n = record { kind = 3; a = z; b = index; c = h; d = n }

abbrev pub wedge : ℕ → ℕ → ℕ → Step
wedge z index h = record { kind = 4; a = z; b = index; c = h; d = 0 }

abbrev pub install : ℕ → ℕ → ℕ → ℕ → Step
install z index h p = record { kind = 5; a = z; b = index; c = h; d = p }

abbrev pub inherit : ℕ → ℕ → ℕ → ℕ → Step
inherit z index h g = record { kind = 6; a = z; b = index; c = h; d = g }

abbrev pub catch_up : ℕ → ℕ → ℕ → ℕ → Step
catch_up z index h g = record { kind = 7; a = z; b = index; c = h; d = g }

-- ---- cases

pub data Case : Type 0 where
  -- "Under that plan, after setup": these steps, tried in turn, give these answers
  answers : List Step → List ℕ → Case
  -- the step at the start of these bytes is read so
  reads : List ℕ → ReadStep → Case
  -- this entry is this number
  word : ℕ → ℕ → Case

-- the answers of several steps, each tried on what the one before left
unfoldable pub answers_from : List ℕ → List Step → List ℕ
answers_from w [] = []
answers_from w (s ∷ ss) = rejection w s ∷ answers_from (after w s) ss

unfoldable pub Holds : Case → Type 0
Holds (answers ss ns) = answers_from program_start ss ≡ ns
Holds (reads bs r) = read_step bs ≡ r
Holds (word e n) = e ≡ n

pub data AllHold : List Case → Type 0 where
  none : AllHold []
  next : {c : Case} {cs : List Case} → Holds c → AllHold cs → AllHold (c ∷ cs)

-- ---- the table

-- the takes 1 to n, added in turn to shard 0
unfoldable pub takes_up_to : ℕ → List Step
takes_up_to zero = []
takes_up_to (suc n) = takes_up_to n ++ (add 0 1 (suc n) ∷ [])

-- "Issue index 2, zone 1, orderer 3, boxes 3 and 5"
unfoldable pub next_issue : ℕ
next_issue = issue 2 1 3 (2 ^ 3 + 2 ^ 5)

unfoldable pub marked : List Case
marked =
    -- "add 7 twice: second is 15"
    answers (add 0 1 7 ∷ add 0 1 7 ∷ []) (0 ∷ 15 ∷ [])
    -- "Add when 55 held passes, when 56 held is 16": the 56th and the 57th add
    ∷ answers (takes_up_to 57) (replicate 56 0 ++ (16 ∷ []))
    -- "Confirm length 1 with one list empty: 19"
    ∷ answers (add 0 1 7 ∷ learn 0 1 0 1 ∷ []) (0 ∷ 19 ∷ [])
    -- "Confirm length 0: 18"
    ∷ answers (learn 0 1 0 0 ∷ []) (18 ∷ [])
    -- "Wedge twice: 12"
    ∷ answers (wedge 0 1 0 ∷ wedge 0 1 0 ∷ []) (0 ∷ 12 ∷ [])
    -- "Adopt by box 0: 14"
    ∷ answers (adopt 0 1 0 ∷ []) (14 ∷ [])
    -- "Issue index 2, zone 1, orderer 3, boxes 3 and 5 is 4329766952; added in zone 0 it passes"
    ∷ word next_issue 4329766952
    ∷ answers (add 0 1 next_issue ∷ []) (0 ∷ [])
    -- "in zone 1 it is 17"
    ∷ answers (add 1 1 next_issue ∷ []) (17 ∷ [])
    -- "Installed before it is confirmed: 20"
    ∷ answers (add 0 1 next_issue ∷ install 1 1 0 0 ∷ []) (0 ∷ 20 ∷ [])
    -- "Inherit from an active source: 13"; since request A6 host 3 is wedged before the install, and host 2 is the active source
    ∷ answers (add 0 1 next_issue ∷ adopt 0 1 1 ∷ learn 0 1 0 1 ∷ wedge 1 1 3 ∷ install 1 1 0 0 ∷ inherit 1 2 3 2 ∷ [])
    (0 ∷ 0 ∷ 0 ∷ 0 ∷ 0 ∷ 13 ∷ [])
    -- "Bytes `04 01 02 05` are wedge 1, 2, 5"
    ∷ reads (4 ∷ 1 ∷ 2 ∷ 5 ∷ []) (one_step (wedge 1 2 5) 4)
    -- "`01 00 01 AC 02` adds take 300"
    ∷ reads (1 ∷ 0 ∷ 1 ∷ 172 ∷ 2 ∷ []) (one_step (add 0 1 300) 5)
    ∷ answers (add 0 1 300 ∷ []) (0 ∷ [])
    -- "`80 00` is 6, `80` is 5"
    ∷ reads (128 ∷ 0 ∷ []) (Err NumberForm)
    ∷ reads (128 ∷ []) (Err LogEnds)
    ∷ []

unfoldable pub MarkedCases : Type 0
MarkedCases = AllHold marked
