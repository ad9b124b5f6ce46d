-- The proof of `specs/Unchanged.antt`: what a step answers and leaves does not depend on words 3 of replicas, nor does what a host shows.
-- Assumes nothing.
use Prim.Native.Nat.{ℕ, zero, suc, ◌<◌}
use native.Mathlib.Decide.{ℕ_discrete}
use mathlib.Core.Path.{◌≡◌, refl, sym, ap₂, ◌∙◌}
use mathlib.Core.Bool.{true}
use mathlib.Core.List.{List, [], ◌∷◌}
use Rattle.types.specs.declared.step.Step.{Step}
use Rattle.model.specs.Replicas.{Replica, stable_prefix}
use Rattle.model.specs.WellFormed.{well_formed}
use Rattle.model.specs.Steps.{rejection, after}
use Rattle.model.specs.Replay.{after_all}
use Rattle.model.specs.StableHistory.{longer, longest_of, stable_history}
use Rattle.model.specs.OneList.{stable_of}
use Rattle.model.specs.Marked.{answers_from}
use Rattle.model.specs.Unchanged.{OriginsAlone, UnchangedClaim}
use Rattle.model.proofs.Checks.{accepted}
use Rattle.model.proofs.WellFormedSteps.{after_accepted, after_rejected, kept}
use Rattle.model.proofs.OriginsAlone.{OriginAlone}
use Rattle.model.proofs.UnchangedChecks.{numbered_same, host_same, answer_same}
use Rattle.model.proofs.UnchangedEffects.{effect_alone}

-- ---- what is shown

prefix_same : {r s : Replica} → OriginAlone r s → stable_prefix r ≡ stable_prefix s
unfolding stable_prefix
prefix_same e = rw (e.stable, e.history)

module _ {v w : List ℕ} (a : OriginsAlone v w) where
  shown-same : (z j h : ℕ) → j < 8 → stable_of v z j h ≡ stable_of w z j h
  unfolding stable_of
  shown-same z j h hj = prefix_same (host_same a z hj h)

  longest_same : (z n : ℕ) → longest_of v z n ≡ longest_of w z n
  unfolding longest_of
  longest_same z zero = refl
  longest_same z (suc n) = ap₂ longer (longest_same z n) (prefix_same (numbered_same a z 0 n))

  history_same : (z : ℕ) → stable_history v z ≡ stable_history w z
  unfolding stable_history
  history_same z = longest_same z 32

-- ---- steps

module _ {v w : List ℕ} (e : well_formed v ≡ true) (f : well_formed w ≡ true) (a : OriginsAlone v w) where
  after_alone : (s : Step) → OriginsAlone (after v s) (after w s)
  after_alone s = go (ℕ_discrete (rejection v s) 0)
    where
      same : rejection v s ≡ rejection w s
      same = answer_same e f a s

      go : Dec (rejection v s ≡ 0) → OriginsAlone (after v s) (after w s)
      go (yes q) = rw (after_accepted v s q, after_accepted w s (sym same ∙ q)) (effect_alone a s (accepted v s q))
      go (no n) = rw (after_rejected v s n, after_rejected w s (λ q. n (same ∙ q))) a

all_alone : {v w : List ℕ} → well_formed v ≡ true → well_formed w ≡ true → OriginsAlone v w → (ss : List Step)
    → OriginsAlone (after_all v ss) (after_all w ss)
unfolding after_all
all_alone e f a [] = a
all_alone {v = v} {w = w} e f a (s ∷ ss) = all_alone {v = after v s} {w = after w s} (kept v s e) (kept w s f) (after_alone e f a s) ss

answers_same : {v w : List ℕ} → well_formed v ≡ true → well_formed w ≡ true → OriginsAlone v w → (ss : List Step)
    → answers_from v ss ≡ answers_from w ss
unfolding answers_from
answers_same e f a [] = refl
answers_same {v = v} {w = w} e f a (s ∷ ss) =
    ap₂ (λ (n : ℕ) (ns : List ℕ). n ∷ ns) (answer_same e f a s) (answers_same {v = after v s} {w = after w s} (kept v s e) (kept w s f) (after_alone e f a s) ss)

pub unchanged : UnchangedClaim
unfolding UnchangedClaim
unchanged v w e f a =
    record {
      answer = answer_same e f a;
      left = after_alone e f a;
      answers = answers_same e f a;
      left_by_all = all_alone e f a;
      prefixes = λ ss. shown-same (all_alone e f a ss);
      histories = λ ss. history_same (all_alone e f a ss);
    }
