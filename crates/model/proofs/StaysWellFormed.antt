-- The proof of `specs/StaysWellFormed.antt`.
use Prim.Native.Nat.{ℕ}
use mathlib.Core.Path.{◌≡◌, refl, ◌∙◌}
use mathlib.Core.Bool.{true}
use mathlib.Core.List.{List, [], ◌∷◌}
use lib.ListN.{length}
use borrow.Author.Tests.{le-leb}
use Rattle.types.specs.declared.step.Step.{Step}
use Rattle.model.specs.Checks.{first_of}
use Rattle.model.specs.Layout.{is_state_length}
use Rattle.model.specs.WellFormed.{well_formed}
use Rattle.model.specs.Steps.{after}
use Rattle.model.specs.Replay.{after_all, replay_rejection}
use Rattle.model.specs.StaysWellFormed.{StaysWellFormed}
use Rattle.model.proofs.Checks.{not_nine}
use Rattle.model.proofs.WellFormedSetup.{setup_well_formed, setup_length}
use Rattle.model.proofs.WellFormed.{WellFormed, is_well_formed}
use Rattle.model.proofs.WellFormedSteps.{after_formed, kept, step_length}

all_kept : (w : List ℕ) (ss : List Step) → well_formed w ≡ true → well_formed (after_all w ss) ≡ true
unfolding after_all
all_kept w [] f = f
all_kept w (s ∷ ss) f = all_kept (after w s) ss (kept w s f)

all_long : (w : List ℕ) (ss : List Step) → length (after_all w ss) ≡ length w
unfolding after_all
all_long w [] = refl
all_long w (s ∷ ss) = all_long (after w s) ss ∙ step_length w s

-- a state of a known number of shards stays well-formed
pub all_formed : {Z : ℕ} {w : List ℕ} → WellFormed Z w → (ss : List Step) → WellFormed Z (after_all w ss)
unfolding after_all
all_formed f [] = f
all_formed {w = w} f (s ∷ ss) = all_formed {w = after w s} (after_formed f s) ss

-- a replay of a well-formed state is not rejected
pub replay_accepted : {Z : ℕ} {w : List ℕ} → WellFormed Z w → replay_rejection w ≡ 0
unfolding replay_rejection first_of is_state_length
replay_accepted {Z} {w} f = rw (f.shards, is_well_formed f, le-leb 2 Z f.several)

pub stays_well_formed : StaysWellFormed
stays_well_formed =
    record {
      setup = setup_well_formed;
      step = kept;
      steps = all_kept;
      never_nine = λ w ss s f. not_nine (after_all w ss) s (all_kept w ss f);
      setup_long = setup_length;
      step_long = step_length;
      steps_long = all_long;
    }
