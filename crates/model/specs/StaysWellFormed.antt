-- States stay well-formed and as long as they are, as one claim, so a run has to test its state only before its first step. It is proved in
-- `proofs/StaysWellFormed.antt` (`stays_well_formed`).
use Rattle.std.specs.Prelude.{◌≡◌, true, List, ℕ, length}
use Rattle.types.specs.declared.step.Step.{Step}
use Rattle.model.specs.WellFormed.{well_formed}
use Rattle.model.specs.Setup.{setup_rejection, after_setup}
use Rattle.model.specs.Steps.{rejection, after}
use Rattle.model.specs.Replay.{after_all}

pub record StaysWellFormed : Type 0 where
  -- an accepted setup leaves a well-formed state
  pub setup : (w p : List ℕ) → setup_rejection w p ≡ 0 → well_formed (after_setup w p) ≡ true
  -- a step, accepted or rejected, keeps a state well-formed
  pub step : (w : List ℕ) (s : Step) → well_formed w ≡ true → well_formed (after w s) ≡ true
  -- so does every list of steps
  pub steps : (w : List ℕ) (ss : List Step) → well_formed w ≡ true → well_formed (after_all w ss) ≡ true
  -- so a run that begins on a well-formed state never meets rejection 9: not at the step that comes after any of its steps
  pub never_nine : (w : List ℕ) (ss : List Step) (s : Step) → well_formed w ≡ true → rejection (after_all w ss) s ≡ 9 → ⊥
  -- a setup, a step and a list of steps, accepted or rejected, on any words, well-formed or not, leave as many words as there were
  pub setup_long : (w p : List ℕ) → length (after_setup w p) ≡ length w
  pub step_long : (w : List ℕ) (s : Step) → length (after w s) ≡ length w
  pub steps_long : (w : List ℕ) (ss : List Step) → length (after_all w ss) ≡ length w
