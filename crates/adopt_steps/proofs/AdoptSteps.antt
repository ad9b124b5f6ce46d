-- An adopt, by the words that the code looks at: what it answers and leaves.
-- Assumes nothing.
use Rattle.std.specs.Prelude.{Ok}
use Prim.Native.Nat.{ℕ, ◌+◌, min, max}
use mathlib.Core.Path.{◌≡◌, refl, sym, ap, ◌∙◌}
use mathlib.Core.Bool.{cond, not}
use mathlib.Core.List.{List}
use lib.Dec.{eqb}
use lib.ListN.{get_or}
use borrow.Author.Tests.{eq-eqb, ne_eqb}
use Rattle.types.specs.declared.kind.Kind.TheVariants.{Adopt}
use Rattle.types.specs.declared.configuration.Configuration.{Configuration}
use Rattle.types.specs.declared.rejection.Rejection.{Rejection}
use Rattle.types.specs.declared.rejection.Rejection.TheVariants.{IsOrderer, WrongMode, NoSource}
use Rattle.types.specs.Rejections.{rejection_number}
use Rattle.model.specs.Checks.{first_of}
use Rattle.model.specs.Replicas.{adopted}
use Rattle.model.specs.Layout.{orderer, replica_at, put_replica}
use Rattle.model.specs.Configuration.{configuration}
use Rattle.model.specs.Steps.{kind_checks, kind_effect}
use Rattle.model.specs.Add.{orderer_place, orderer_replica}
use Rattle.model.specs.Adopt.{adopt_checks, adopt_effect}
use Rattle.lookup.specs.Ready.{Ready, ReadyInstalled, Placed, HoldsReplica}
use Rattle.lookup.specs.KindContracts.{kind_answer, kind_after}
use Rattle.model.proofs.Fields.{mode_word_lem, stable_word, origin_word_lem, active_word, pending_word}
use Rattle.lookup.proofs.StateWords.{length_word}
use Rattle.lookup.proofs.FoundReplicas.{At, words_at}
use Rattle.lookup.proofs.Orderers.{orderer_at, orderer_replica_lem}
use Rattle.lookup.proofs.KindAnswers.{rejects, accepts}
use Rattle.step_numbers.specs.Acting.{Acting, acting_checks}
use Rattle.step_numbers.proofs.ActingSteps as acting
use Rattle.copying.specs.Copies.{copied}

module _ (w : List ℕ) (z j h d : ℕ) where
  pub nowhere : (x : Rejection) → rejection_number x ≡ first_of (acting_checks Adopt w z j h d)
      → (rejection_number x ≡ kind_answer (Ok Adopt) w z j h d) × (w ≡ kind_after (Ok Adopt) w z j h d)
  unfolding kind_checks adopt_checks
  nowhere x e = acting.nowhere Adopt w z j h d _ refl x e

  -- p is the acting host's replica, and k the configuration, as the code has it
  module _ (r : Ready w z j) {p : ℕ} (s : Acting Adopt w z j h d p) where
    at : At w z j h p
    at = acting.acting_at s

    pub there : ReadyInstalled w z j
    there = record { ready = r; there = at.there }

    module _ {k : Configuration} (c : k ≡ configuration w z j) where
      orderer_test : eqb h (orderer w z j) ≡ eqb h k.orderer
      unfolding configuration
      orderer_test = ap (λ (x : Configuration). eqb h x.orderer) (sym c)

      pub is_orderer : h ≡ k.orderer → (14 ≡ kind_answer (Ok Adopt) w z j h d) × (w ≡ kind_after (Ok Adopt) w z j h d)
      unfolding kind_checks adopt_checks first_of
      is_orderer q = rejects (Ok Adopt) w z j h d s.numbers IsOrderer (rw (at.there, at.member, orderer_test, eq-eqb _ _ q))

      module _ (other : h ≡ k.orderer → ⊥) where
        pub not_active : (get_or w p 0 ≡ 2 → ⊥) → (12 ≡ kind_answer (Ok Adopt) w z j h d) × (w ≡ kind_after (Ok Adopt) w z j h d)
        unfolding kind_checks adopt_checks first_of
        not_active m =
            rejects (Ok Adopt) w z j h d s.numbers WrongMode
            (rw (at.there, at.member, orderer_test, ne_eqb _ _ other, at.replica_is, active_word w p, ne_eqb _ _ m))

        -- o is the place of the orderer's replica
        module _ (active : get_or w p 0 ≡ 2) {o : ℕ} (q : o ≡ orderer_place w z j) where
          orderer_is : orderer_replica w z j ≡ replica_at w o
          orderer_is = orderer_replica_lem (orderer_at there q)

          pub holds : Placed w o → HoldsReplica w o
          holds f = record { placed = f; words = words_at (orderer_at there q) r }

          -- all that is left is the last check
          last : cond (not (eqb (get_or w o 0) 1)) 0 13 ≡ first_of (adopt_checks w z j h)
          unfolding adopt_checks first_of
          last =
              rw (at.there, at.member, orderer_test, ne_eqb _ _ other, at.replica_is, active_word w p, eq-eqb _ _ active)
              (rw (orderer_is, pending_word w o))

          pub orderer-pending : get_or w o 0 ≡ 1 → (13 ≡ kind_answer (Ok Adopt) w z j h d) × (w ≡ kind_after (Ok Adopt) w z j h d)
          unfolding kind_checks
          orderer-pending m = rejects (Ok Adopt) w z j h d s.numbers NoSource (rw (eq-eqb _ _ m) at last)

          pub done : (get_or w o 0 ≡ 1 → ⊥) → {l m : ℕ} → l ≡ max (get_or w (p + 2) 0) (get_or w (o + 2) 0) → m ≡ min l (get_or w (o + 1) 0)
              → {v : List ℕ} → v ≡ put_replica w p (copied 2 m (get_or w (p + 3) 0) (replica_at w o))
              → (0 ≡ kind_answer (Ok Adopt) w z j h d) × (v ≡ kind_after (Ok Adopt) w z j h d)
          unfolding kind_checks kind_effect adopt_effect adopted
          done g {l} {m} el em f =
              accepts (Ok Adopt) w z j h d s.numbers (rw (ne_eqb _ _ g) at last)
              (f
              ∙ rw (
                at.place_is,
                at.replica_is,
                orderer_is,
                mode_word_lem w p,
                active,
                stable_word w p,
                stable_word w o,
                origin_word_lem w p,
                length_word w o (words_at (orderer_at there q) r),
                ← el,
                ← em,
              ))
