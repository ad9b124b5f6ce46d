-- A wedge, by the words that the code looks at: what it answers and leaves.
-- Assumes nothing.
use Prim.Native.Nat.{ℕ}
use mathlib.Core.Path.{◌≡◌, refl, ◌∙◌}
use mathlib.Core.List.{List}
use lib.ListN.{get_or, set}
use borrow.Author.Tests.{eq-eqb, ne_eqb}
use Rattle.std.specs.Prelude.{Ok}
use Rattle.types.specs.declared.kind.Kind.TheVariants.{Wedge}
use Rattle.types.specs.declared.rejection.Rejection.TheVariants.{WrongMode}
use Rattle.types.specs.declared.rejection.Rejection.{Rejection}
use Rattle.types.specs.Rejections.{rejection_number}
use Rattle.model.specs.Checks.{first_of}
use Rattle.model.specs.Replicas.{wedged}
use Rattle.model.specs.Steps.{kind_checks, kind_effect}
use Rattle.model.specs.Wedge.{wedge_checks, wedge_effect}
use Rattle.lookup.specs.Ready.{Ready}
use Rattle.lookup.specs.KindContracts.{kind_answer, kind_after}
use Rattle.step_numbers.specs.Acting.{Acting, acting_checks}
use Rattle.model.proofs.Fields.{active_word}
use Rattle.lookup.proofs.FoundReplicas.{At, words_at}
use Rattle.lookup.proofs.Stores.{store_mode}
use Rattle.lookup.proofs.KindAnswers.{rejects, accepts}
use Rattle.step_numbers.proofs.ActingSteps as acting

module _ (w : List ℕ) (z j h d : ℕ) where
  pub nowhere : (x : Rejection) → rejection_number x ≡ first_of (acting_checks Wedge w z j h d)
      → (rejection_number x ≡ kind_answer (Ok Wedge) w z j h d) × (w ≡ kind_after (Ok Wedge) w z j h d)
  unfolding kind_checks wedge_checks
  nowhere x e = acting.nowhere Wedge w z j h d _ refl x e

  -- p is the acting host's replica
  module _ {p : ℕ} (s : Acting Wedge w z j h d p) where
    at : At w z j h p
    at = acting.acting_at s

    pub not_active : (get_or w p 0 ≡ 2 → ⊥) → (12 ≡ kind_answer (Ok Wedge) w z j h d) × (w ≡ kind_after (Ok Wedge) w z j h d)
    unfolding kind_checks wedge_checks first_of
    not_active m = rejects (Ok Wedge) w z j h d s.numbers WrongMode (simp (at.there, at.member, at.replica_is, active_word, ne_eqb _ _ m))

    pub done : Ready w z j → get_or w p 0 ≡ 2 → (0 ≡ kind_answer (Ok Wedge) w z j h d) × (set w p 3 ≡ kind_after (Ok Wedge) w z j h d)
    unfolding kind_checks kind_effect wedge_checks wedge_effect wedged first_of
    done r m =
        accepts (Ok Wedge) w z j h d s.numbers (simp (at.there, at.member, at.replica_is, active_word, eq-eqb _ _ m))
        (store_mode w p _ (words_at at r) 3 ∙ rw (at.place_is, at.replica_is))
