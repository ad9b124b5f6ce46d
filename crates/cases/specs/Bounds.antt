-- Rejections 2, 3, 4 and 7 at each bound: the last number that is in range, and the first that is not. Where a step in range is rejected all the same, a
-- later check tells it.
use Rattle.std.specs.Prelude.{ℕ, ◌+◌, ◌-◌, ◌^◌, ◌≡◌, [], ◌∷◌}
use Rattle.model.specs.Entries.{issue}
use Rattle.model.specs.Log.{step_of}
use Rattle.model.specs.Setup.{setup_rejection}
use Rattle.model.specs.Transcript.{program_start}
use Rattle.model.specs.Marked.{add, adopt, learn, wedge, install, inherit, catch_up}
use Rattle.cases.specs.CaseRows.{tried}

-- member sets of four hosts and of five
abbrev pub four : ℕ
four = 2 ^ 0 + 2 ^ 1 + 2 ^ 2 + 2 ^ 3

abbrev pub five : ℕ
five = four + 2 ^ 4

pub record StepBounds : Type 0 where
  -- "3. Kind 7 to 31, which are kept for later", from 8 on since request A4. "4. Kind 0 or above 31."
  pub kinds : tried (step_of 7 (0 ∷ 1 ∷ []) ∷ step_of 8 [] ∷ step_of 31 [] ∷ step_of 32 [] ∷ step_of 0 [] ∷ []) ≡ 12 ∷ 3 ∷ 3 ∷ 4 ∷ 4 ∷ []
  -- "zone not below Z"
  pub shards : tried (wedge 1 1 2 ∷ wedge 2 1 2 ∷ []) ≡ 0 ∷ 7 ∷ []
  -- "index not 1 to 8"
  pub indices : tried (wedge 0 0 0 ∷ wedge 0 8 0 ∷ wedge 0 9 0 ∷ []) ≡ 7 ∷ 10 ∷ 7 ∷ []
  -- "a box above 15": the third number, and the source
  pub hosts : tried (adopt 0 1 15 ∷ adopt 0 1 16 ∷ learn 0 1 15 1 ∷ learn 0 1 16 1 ∷ wedge 0 1 15 ∷ wedge 0 1 16 ∷ []) ≡ 11 ∷ 7 ∷ 11 ∷ 7 ∷ 11 ∷ 7 ∷ []
  pub issuers : tried (install 0 1 15 0 ∷ install 0 1 16 0 ∷ []) ≡ 11 ∷ 7 ∷ []
  pub sources : tried (inherit 1 1 2 15 ∷ inherit 1 1 2 16 ∷ inherit 1 1 16 2 ∷ []) ≡ 12 ∷ 7 ∷ 7 ∷ []
  pub peers : tried (catch_up 1 1 2 15 ∷ catch_up 1 1 2 16 ∷ catch_up 1 1 16 2 ∷ []) ≡ 12 ∷ 7 ∷ 7 ∷ []
  -- "length above 56, place above 55"
  pub lengths : tried (learn 0 1 0 56 ∷ learn 0 1 0 57 ∷ []) ≡ 19 ∷ 7 ∷ []
  pub places : tried (install 0 1 2 55 ∷ install 0 1 2 56 ∷ []) ≡ 20 ∷ 7 ∷ []
  -- "an unused number not 0"
  pub unused_numbers : tried (step_of 1 (0 ∷ 1 ∷ 7 ∷ 1 ∷ []) ∷ step_of 2 (0 ∷ 1 ∷ 1 ∷ 1 ∷ []) ∷ step_of 4 (0 ∷ 1 ∷ 0 ∷ 1 ∷ []) ∷ []) ≡ 7 ∷ 7 ∷ 7 ∷ []
  -- "a take, 1 to 4,294,967,295"
  pub takes : tried (add 0 1 0 ∷ add 0 1 1 ∷ add 0 1 (2 ^ 32 - 1) ∷ add 0 1 (2 ^ 32) ∷ []) ≡ 7 ∷ 0 ∷ 0 ∷ 7 ∷ []
  -- an issue: "index 2 to 8, zone below Z, a proper member set and its orderer"
  pub issued_indices : tried (add 0 1 (issue 1 1 0 1) ∷ add 0 1 (issue 2 1 0 1) ∷ add 0 1 (issue 8 1 0 1) ∷ add 0 1 (issue 9 1 0 1) ∷ [])
      ≡ 7 ∷ 0 ∷ 0 ∷ 7 ∷ []
  pub issued_shards : tried (add 0 1 (issue 2 1 0 1) ∷ add 0 1 (issue 2 2 0 1) ∷ []) ≡ 0 ∷ 7 ∷ []
  pub issued_members : tried (add 0 1 (issue 2 1 0 0) ∷ add 0 1 (issue 2 1 0 four) ∷ add 0 1 (issue 3 1 0 five) ∷ add 0 1 (issue 3 1 4 four) ∷ [])
      ≡ 7 ∷ 0 ∷ 7 ∷ 7 ∷ []

-- "2. Plan length is not 3 × Z, or its zones break good form": four members and five, an orderer that is none, a sequencer twice, a word less
pub record PlanBounds : Type 0 where
  pub four_members : setup_rejection program_start (1 ∷ four ∷ 3 ∷ 0 ∷ 2 ^ 15 ∷ 15 ∷ []) ≡ 0
  pub five_members : setup_rejection program_start (1 ∷ five ∷ 3 ∷ 0 ∷ 2 ^ 15 ∷ 15 ∷ []) ≡ 2
  pub no_member : setup_rejection program_start (1 ∷ four ∷ 4 ∷ 0 ∷ 2 ^ 15 ∷ 15 ∷ []) ≡ 2
  pub twice : setup_rejection program_start (1 ∷ four ∷ 3 ∷ 1 ∷ 2 ^ 15 ∷ 15 ∷ []) ≡ 2
  pub shorter : setup_rejection program_start (1 ∷ four ∷ 3 ∷ 0 ∷ 2 ^ 15 ∷ []) ≡ 2
