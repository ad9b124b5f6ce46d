-- A learn, by the words that the code looks at: what it answers and leaves.
-- Assumes nothing.
use Prim.Native.Nat.{ℕ, ◌+◌, ◌≤◌, ◌<◌}
use mathlib.Core.Path.{◌≡◌, refl, ◌∙◌}
use mathlib.Core.Bool.{Bool, true, false, cond}
use mathlib.Core.List.{List}
use lib.ListN.{get_or, set}
use borrow.Author.Tests.{lt-ltb, le-ltb, eq-eqb, ne_eqb}
use Rattle.std.specs.Prelude.{Ok}
use Rattle.types.specs.declared.kind.Kind.TheVariants.{Learn}
use Rattle.types.specs.declared.configuration.Configuration.{Configuration}
use Rattle.types.specs.declared.rejection.Rejection.{Rejection}
use Rattle.types.specs.declared.rejection.Rejection.TheVariants.{WrongMode, NotLonger, NotAlike}
use Rattle.types.specs.Rejections.{rejection_number}
use Rattle.model.specs.Checks.{first_of}
use Rattle.types.specs.Rules.{most_fourth}
use Rattle.types.specs.Members.{size}
use Rattle.model.specs.Configuration.{configuration}
use Rattle.model.specs.Steps.{kind_checks, kind_effect}
use Rattle.model.specs.Learn.{learn_checks, learn_effect}
use Rattle.lookup.specs.Ready.{Ready}
use Rattle.lookup.specs.KindContracts.{kind_answer, kind_after}
use Rattle.step_numbers.specs.Acting.{Acting, acting_checks}
use Rattle.types.proofs.KindRules.{known}
use Rattle.model.proofs.Fields.{active_word, stable_word}
use Rattle.lookup.proofs.FoundReplicas.{At, words_at}
use Rattle.lookup.proofs.Stores.{store_stable}
use Rattle.lookup.proofs.KindAnswers.{rejects, accepts, fourth_small}
use Rattle.step_numbers.proofs.ActingSteps as acting
use Rattle.learn_steps.specs.AlikeWords.{Compared, all_alike_at}
use Rattle.learn_steps.proofs.LearnAlike.{compared, all_alike_words}

module _ (w : List ℕ) (z j h n : ℕ) where
  pub nowhere : (x : Rejection) → rejection_number x ≡ first_of (acting_checks Learn w z j h n)
      → (rejection_number x ≡ kind_answer (Ok Learn) w z j h n) × (w ≡ kind_after (Ok Learn) w z j h n)
  unfolding kind_checks learn_checks
  nowhere x e = acting.nowhere Learn w z j h n _ refl x e

  -- p is the acting host's replica
  module _ (r : Ready w z j) {p : ℕ} (s : Acting Learn w z j h n p) where
    few : n ≤ 56
    unfolding most_fourth
    few = fourth_small (Ok Learn) w z j h n s.numbers (known Learn)

    at : At w z j h p
    at = acting.acting_at s

    pub not_active : (get_or w p 0 ≡ 2 → ⊥) → (12 ≡ kind_answer (Ok Learn) w z j h n) × (w ≡ kind_after (Ok Learn) w z j h n)
    unfolding kind_checks learn_checks first_of
    not_active q = rejects (Ok Learn) w z j h n s.numbers WrongMode (simp (at.there, at.member, at.replica_is, active_word, ne_eqb _ _ q))

    module _ (active : get_or w p 0 ≡ 2) where
      pub not_above : n ≤ get_or w (p + 2) 0 → (18 ≡ kind_answer (Ok Learn) w z j h n) × (w ≡ kind_after (Ok Learn) w z j h n)
      unfolding kind_checks learn_checks first_of
      not_above q =
          rejects (Ok Learn) w z j h n s.numbers NotLonger
          (simp (at.there, at.member, at.replica_is, active_word, eq-eqb _ _ active, stable_word, le-ltb _ _ q))

      -- c and k are the configuration and its size, as the code has them
      module _ (above : get_or w (p + 2) 0 < n) {c : Configuration} (ec : c ≡ configuration w z j) {k : ℕ} (ek : k ≡ size c.members) where
        pub comparable : Compared w c.place k n p
        comparable = compared r c k n p ec ek few s.placed

        -- t is the outcome of the comparison
        module _ {t : Bool} (q : t ≡ all_alike_at w c.place k n p) where
          last : cond t 0 19 ≡ first_of (learn_checks w z j h n)
          unfolding learn_checks first_of
          last =
              rw (
                at.there,
                at.member,
                at.replica_is,
                active_word w p,
                eq-eqb _ _ active,
                stable_word w p,
                lt-ltb _ _ above,
                ← all_alike_words r c k n p ec ek few (words_at at r),
                ← q,
              )

          pub unlike : t ≡ false → (19 ≡ kind_answer (Ok Learn) w z j h n) × (w ≡ kind_after (Ok Learn) w z j h n)
          unfolding kind_checks
          unlike f = rejects (Ok Learn) w z j h n s.numbers NotAlike (rw f at last)

          pub done : t ≡ true → (0 ≡ kind_answer (Ok Learn) w z j h n) × (set w (p + 2) n ≡ kind_after (Ok Learn) w z j h n)
          unfolding kind_checks kind_effect learn_effect
          done f =
              accepts (Ok Learn) w z j h n s.numbers (rw f at last)
              (store_stable w p _ (words_at at r) n ∙ rw (at.place_is, at.replica_is))
