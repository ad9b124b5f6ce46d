-- On a well-formed state what steps leave, count and print needs no test of the whole state, so that it computes quickly where the steps are written out.
use Prim.Native.Nat.{ℕ, suc, ◌+◌}
use mathlib.Core.Path.{◌≡◌, refl, sym, ap, ap₂, ◌∙◌}
use mathlib.Core.Bool.{cond, ◌||◌}
use mathlib.Core.List.{List, [], ◌∷◌, ◌++◌}
use lib.Dec.{eqb}
use Rattle.types.specs.declared.step.Step.{Step}
use Rattle.types.specs.Members.{is_host}
use Rattle.model.specs.Layout.{orderer}
use Rattle.types.specs.StepNames.{shard_of, configuration_of, acting_host}
use Rattle.model.specs.Steps.{after, rejection}
use Rattle.model.specs.Replay.{after_all, rejected_in}
use Rattle.model.specs.Transcript.{decimal, spaced, newline, step_lines}
use Rattle.model.specs.Marked.{answers_from}
use Rattle.model.proofs.WellFormed.{WellFormed}
use Rattle.model.proofs.WellFormedSteps.{after_formed}
use Rattle.model.proofs.Answers.{quick_rejection, quick_after, quick_answers, quick_rejection_lem, quick_after_lem, quick_answers_lem}
use Rattle.tallies.specs.declared.tally.Tally.{Tally}
use Rattle.tallies.specs.Tally.{tally_of}
use Rattle.rejection_hosts.specs.RejectionHosts.{no_host, named_host, count_of}
use Rattle.tallies.specs.TallyCounts.{nothing_counted, counted_in}
use Rattle.tallies.proofs.TallyCounts.{tally_from, tally_from_nothing}

-- ---- what is left, and how many are rejected

unfoldable pub quick_after_all : ℕ → List ℕ → List Step → List ℕ
quick_after_all Z w [] = w
quick_after_all Z w (s ∷ ss) = quick_after_all Z (quick_after Z w s) ss

unfoldable pub quick_rejected_in : ℕ → List ℕ → List Step → ℕ
quick_rejected_in Z w [] = 0
quick_rejected_in Z w (s ∷ ss) = cond (eqb (quick_rejection Z w s) 0) 0 1 + quick_rejected_in Z (quick_after Z w s) ss

-- ---- whose rejection it is

unfoldable pub quick_named : ℕ → List ℕ → Step → ℕ
quick_named Z w s =
    acting_host s (cond (eqb (quick_rejection Z w s) 7 || eqb (quick_rejection Z w s) 10) no_host (orderer w (shard_of s) (configuration_of s)))

unfoldable pub quick_count : ℕ → List ℕ → Step → ℕ
quick_count Z w s = cond (is_host (quick_named Z w s)) (quick_named Z w s) no_host

unfoldable pub quick_tally : ℕ → Tally → List ℕ → List Step → Tally
quick_tally Z t w [] = t
quick_tally Z t w (s ∷ ss) =
    quick_tally Z (cond (eqb (quick_rejection Z w s) 0) t (counted_in t (quick_count Z w s))) (quick_after Z w s) ss

-- ---- the lines of steps

unfoldable pub quick_lines : ℕ → ℕ → List ℕ → List Step → List ℕ
quick_lines Z n w [] = []
quick_lines Z n w (s ∷ ss) =
    (decimal (suc n) ++ (spaced s.kind ++ (spaced (quick_rejection Z w s) ++ newline))) ++ quick_lines Z (suc n) (quick_after Z w s) ss

-- ---- they are what is defined

quick_count_lem : {Z : ℕ} {w : List ℕ} → WellFormed Z w → (s : Step) → count_of w s ≡ quick_count Z w s
unfolding count_of named_host quick_count quick_named
quick_count_lem f s = rw (quick_rejection_lem f s)

pub quick_after_all_lem : {Z : ℕ} {w : List ℕ} → WellFormed Z w → (ss : List Step) → after_all w ss ≡ quick_after_all Z w ss
unfolding after_all quick_after_all
quick_after_all_lem f [] = refl
quick_after_all_lem {Z = Z} {w = w} f (s ∷ ss) =
    quick_after_all_lem {w = after w s} (after_formed f s) ss ∙ ap (λ (u : List ℕ). quick_after_all Z u ss) (quick_after_lem f s)

pub quick_rejected_in_lem : {Z : ℕ} {w : List ℕ} → WellFormed Z w → (ss : List Step) → rejected_in w ss ≡ quick_rejected_in Z w ss
unfolding rejected_in quick_rejected_in
quick_rejected_in_lem f [] = refl
quick_rejected_in_lem {Z = Z} {w = w} f (s ∷ ss) =
    ap₂ ◌+◌ (ap (λ (n : ℕ). cond (eqb n 0) 0 1) (quick_rejection_lem f s))
    (quick_rejected_in_lem {w = after w s} (after_formed f s) ss ∙ ap (λ (u : List ℕ). quick_rejected_in Z u ss) (quick_after_lem f s))

quick_tally_from : {Z : ℕ} {w : List ℕ} → WellFormed Z w → (ss : List Step) (t : Tally) → tally_from t w ss ≡ quick_tally Z t w ss
unfolding tally_from quick_tally
quick_tally_from f [] t = refl
quick_tally_from {Z = Z} {w = w} f (s ∷ ss) t =
    quick_tally_from {w = after w s} (after_formed f s) ss (cond (eqb (rejection w s) 0) t (counted_in t (count_of w s)))
    ∙ rw (quick_after_lem f s, quick_count_lem f s, quick_rejection_lem f s)

pub quick_tally_lem : {Z : ℕ} {w : List ℕ} → WellFormed Z w → (ss : List Step) → tally_of w ss ≡ quick_tally Z nothing_counted w ss
quick_tally_lem {Z} {w} f ss = sym (tally_from_nothing w ss) ∙ quick_tally_from f ss nothing_counted

pub quick_lines_lem : {Z : ℕ} {w : List ℕ} → WellFormed Z w → (ss : List Step) (n : ℕ) → step_lines n w ss ≡ quick_lines Z n w ss
unfolding step_lines quick_lines
quick_lines_lem f [] n = refl
quick_lines_lem {Z = Z} {w = w} f (s ∷ ss) n =
    ap (λ (u : List ℕ). (decimal (suc n) ++ (spaced s.kind ++ (spaced (rejection w s) ++ newline))) ++ u)
    (quick_lines_lem {w = after w s} (after_formed f s) ss (suc n))
    ∙ rw (quick_after_lem f s, quick_rejection_lem f s)

-- ---- rows on a well-formed state w, which is u

module _ {w u : List ℕ} (f : WellFormed 2 w) (q : w ≡ u) where
  pub answers_by : (ss : List Step) {ns : List ℕ} → quick_answers 2 u ss ≡ ns → answers_from w ss ≡ ns
  answers_by ss e = quick_answers_lem f ss ∙ ap (λ (v : List ℕ). quick_answers 2 v ss) q ∙ e

  pub answer_by : (s : Step) {n : ℕ} → quick_rejection 2 u s ≡ n → rejection w s ≡ n
  answer_by s e = quick_rejection_lem f s ∙ ap (λ (v : List ℕ). quick_rejection 2 v s) q ∙ e

  pub leaves_by : (ss : List Step) {v : List ℕ} → quick_after_all 2 u ss ≡ v → after_all w ss ≡ v
  leaves_by ss e = quick_after_all_lem f ss ∙ ap (λ (v : List ℕ). quick_after_all 2 v ss) q ∙ e
