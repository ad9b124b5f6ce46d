-- The state that the program starts from is what setup of its plan leaves, as one claim, so its text is that of a run that begins with an accepted setup.
-- It is proved in `proofs/ProgramStart.antt` (`program_setup`).
use Rattle.std.specs.Prelude.{ℕ, ◌+◌, ◌*◌, ◌^◌, ◌≡◌, List, [], ◌∷◌, length}
use Rattle.model.specs.Layout.{shard_words}
use Rattle.model.specs.Setup.{setup_rejection, after_setup}
use Rattle.model.specs.Transcript.{program_plan, program_start}

pub record ProgramSetup : Type 0 where
  -- "Plan: zone 0 sequencer 1, boxes 0 and 1, orderer 0; zone 1 sequencer 0, boxes 2 and 3, orderer 2."
  pub plan : program_plan ≡ 1 ∷ (2 ^ 0 + 2 ^ 1) ∷ 0 ∷ 0 ∷ (2 ^ 2 + 2 ^ 3) ∷ 2 ∷ []
  -- setup of any borrowed state of two shards accepts it ..
  pub accepted : (w : List ℕ) → length w ≡ 2 * shard_words → setup_rejection w program_plan ≡ 0
  -- .. and leaves the program's first state, whatever stood there
  pub first : (w : List ℕ) → length w ≡ 2 * shard_words → after_setup w program_plan ≡ program_start
