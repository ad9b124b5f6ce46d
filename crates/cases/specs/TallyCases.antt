-- Whose rejection it is (request A7), and the order of the rejections of a replay with a tally.
use Rattle.std.specs.Prelude.{◌≡◌, [], ◌∷◌, replicate}
use Rattle.model.specs.Transcript.{program_start}
use Rattle.model.specs.Marked.{add, adopt, learn, wedge, install, inherit, catch_up, next_issue}
use Rattle.tallies.specs.declared.tally.Tally.{Tally}
use Rattle.tallies.specs.Tally.{tally_after}
use Rattle.word_outputs.specs.TallyWords.{tally_words}
use Rattle.word_outputs.specs.TallyOutputs.{tally_answer}
use Rattle.cases.specs.CaseRows.{Counted, counts}
use Rattle.cases.specs.States.{too_short, ill_formed}

-- seventeen counts of 5
unfoldable pub fives : Tally
fives = record { hosts = replicate 16 5; none = 5 }

pub record Named : Type 0 where
  -- "for add it is the orderer of the named configuration": 12, and 17 in shard 1. "No box is named .. for add, when refusal 7 or 10 occurs"
  pub adds : Counted (wedge 0 1 0 ∷ add 0 1 7 ∷ []) ((0, 1 ∷ []) ∷ []) × Counted (add 1 1 next_issue ∷ []) ((2, 1 ∷ []) ∷ [])
  pub out_of_range : Counted (add 9 1 7 ∷ []) ((16, 1 ∷ []) ∷ [])
  pub not_installed : Counted (add 0 2 7 ∷ []) ((16, 1 ∷ []) ∷ [])
  -- "The box is the named one": the acting one and not the source; of install the one in the sequencer
  pub adopts : Counted (adopt 0 1 0 ∷ []) ((0, 1 ∷ []) ∷ [])
  pub learns : Counted (learn 0 1 1 0 ∷ []) ((1, 1 ∷ []) ∷ [])
  pub installs : Counted (install 1 1 5 0 ∷ []) ((5, 1 ∷ []) ∷ [])
  pub inherits : Counted (inherit 1 1 2 9 ∷ []) ((2, 1 ∷ []) ∷ [])
  pub catches_up : Counted (catch_up 1 1 2 9 ∷ []) ((2, 1 ∷ []) ∷ [])
  -- .. also where another number is out of range
  pub elsewhere : Counted (wedge 9 1 3 ∷ []) ((3, 1 ∷ []) ∷ [])
  -- "No box is named when its number is above 15"
  pub last : Counted (wedge 0 1 15 ∷ []) ((15, 1 ∷ []) ∷ [])
  pub above : Counted (wedge 0 1 16 ∷ []) ((16, 1 ∷ []) ∷ [])
  -- several; a step that is accepted counts nowhere
  pub several : Counted (wedge 0 1 5 ∷ wedge 0 1 1 ∷ wedge 0 1 5 ∷ add 0 2 7 ∷ wedge 0 1 1 ∷ []) ((1, 1 ∷ []) ∷ (5, 2 ∷ []) ∷ (16, 1 ∷ []) ∷ [])

-- "A run turned back by 1 or 9 leaves it untouched; any other starts it from zero."
pub record TallyLeft : Type 0 where
  pub leaves : (tally_after fives too_short [] 9 ≡ fives) × (tally_after fives ill_formed [] 9 ≡ fives)
  pub from_zero : tally_words (tally_after fives program_start [] 0) ≡ counts []

-- for C: 8 of the tally, 8 of the report, then 1 and 9
pub record TallyOrder : Type 0 where
  pub tally : (tally_answer too_short (128 ∷ []) 9 (replicate 4 0) (replicate 16 0) ≡ 8)
      × (tally_answer ill_formed (128 ∷ []) 9 (replicate 4 0) (replicate 16 0) ≡ 8)
  pub report : (tally_answer too_short (128 ∷ []) 9 (replicate 3 0) (replicate 17 0) ≡ 8)
      × (tally_answer ill_formed (128 ∷ []) 9 (replicate 3 0) (replicate 17 0) ≡ 8)
  pub wrong_length : tally_answer too_short (128 ∷ []) 9 (replicate 4 0) (replicate 17 0) ≡ 1
  pub form : tally_answer ill_formed (128 ∷ []) 9 (replicate 4 0) (replicate 17 0) ≡ 9
  pub damaged : tally_answer program_start (128 ∷ []) 9 (replicate 4 0) (replicate 17 0) ≡ 5
