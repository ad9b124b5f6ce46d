-- On a well-formed state the answers of steps need no test of the whole state, so that they compute quickly where the steps are written out.
use Prim.Native.Nat.{ℕ}
use mathlib.Core.Path.{◌≡◌, refl, ap, ap₂, ◌∙◌}
use mathlib.Core.Bool.{cond, not}
use mathlib.Core.List.{List, [], ◌∷◌}
use lib.Dec.{eqb}
use borrow.Author.Tests.{le-leb}
use Rattle.types.specs.declared.step.Step.{Step}
use Rattle.model.specs.Checks.{first_of, ◌or_else◌}
use Rattle.types.specs.Kinds.{kind_of, is_kept, is_unknown}
use Rattle.model.specs.Layout.{is_state_length}
use Rattle.types.specs.StepNames.{shard_of, configuration_of}
use Rattle.model.specs.Steps.{in_range, kind_checks, step_checks, rejection, effect, after}
use Rattle.model.specs.Marked.{answers_from}
use Rattle.model.proofs.WellFormed.{WellFormed, is_well_formed}
use Rattle.model.proofs.WellFormedSteps.{after_formed}

-- what a step answers by its checks but 1 and 9, which a well-formed state of Z shards passes
unfoldable pub quick_rejection : ℕ → List ℕ → Step → ℕ
quick_rejection Z w s =
    first_of
    (not (is_kept (kind_of s.kind)) or_else 3
    ∷ not (is_unknown (kind_of s.kind)) or_else 4
    ∷ in_range Z s or_else 7
    ∷ kind_checks (kind_of s.kind) w (shard_of s) (configuration_of s) s.c s.d)

unfoldable pub quick_after : ℕ → List ℕ → Step → List ℕ
quick_after Z w s = cond (eqb (quick_rejection Z w s) 0) (effect w s) w

unfoldable pub quick_answers : ℕ → List ℕ → List Step → List ℕ
quick_answers Z w [] = []
quick_answers Z w (s ∷ ss) = quick_rejection Z w s ∷ quick_answers Z (quick_after Z w s) ss

module _ {Z : ℕ} {w : List ℕ} (f : WellFormed Z w) (s : Step) where
  pub quick_rejection_lem : rejection w s ≡ quick_rejection Z w s
  unfolding rejection step_checks quick_rejection is_state_length first_of
  quick_rejection_lem = rw (f.shards, le-leb 2 Z f.several, is_well_formed f)

  pub quick_after_lem : after w s ≡ quick_after Z w s
  unfolding after quick_after
  quick_after_lem = rw quick_rejection_lem

pub quick_answers_lem : {Z : ℕ} {w : List ℕ} → WellFormed Z w → (ss : List Step) → answers_from w ss ≡ quick_answers Z w ss
unfolding answers_from quick_answers
quick_answers_lem f [] = refl
quick_answers_lem {Z = Z} {w = w} f (s ∷ ss) =
    ap₂ (λ (n : ℕ) (ns : List ℕ). n ∷ ns) (quick_rejection_lem f s)
    (quick_answers_lem {w = after w s} (after_formed f s) ss ∙ ap (λ (u : List ℕ). quick_answers Z u ss) (quick_after_lem f s))
