-- Inherit and catch up, by which a pending replica begins from another one: the checks that they share, by the words that the code looks at.
-- Assumes nothing.
use Prim.Native.Nat.{ℕ, ◌≤◌, ◌<◌}
use native.Mathlib.Omega.{arith}
use mathlib.Core.Path.{◌≡◌, ◌∙◌}
use mathlib.Core.Bool.{Bool, true, false, cond}
use mathlib.Core.List.{List, [], ◌∷◌}
use lib.ListN.{get_or}
use borrow.Author.Tests.{eq-eqb, ne_eqb}
use Rattle.std.specs.Prelude.{Ok}
use Rattle.types.specs.declared.kind.Kind.{Kind}
use Rattle.types.specs.declared.rejection.Rejection.{Rejection}
use Rattle.types.specs.declared.rejection.Rejection.TheVariants.{WrongMode, NoSource}
use Rattle.types.specs.Rejections.{rejection_number}
use Rattle.model.specs.Checks.{first_of, ◌or_else◌}
use Rattle.types.specs.Rules.{most_fourth}
use Rattle.types.specs.Members.{has_member}
use Rattle.model.specs.Replicas.{is_pending}
use Rattle.model.specs.Layout.{is_installed, members}
use Rattle.model.specs.Configuration.{configuration, replica_of}
use Rattle.model.specs.Steps.{kind_checks, kind_effect}
use Rattle.types.proofs.KindRules.{known}
use Rattle.model.proofs.WellFormedMembers.{member_proper}
use Rattle.model.proofs.Fields.{pending_word}
use Rattle.lookup.specs.Ready.{Ready}
use Rattle.lookup.specs.KindContracts.{kind_answer, kind_after}
use Rattle.lookup.proofs.ReadyFields.{formed}
use Rattle.lookup.proofs.FoundReplicas.{At}
use Rattle.lookup.proofs.KindAnswers.{rejects, accepts, fourth_small}
use Rattle.step_numbers.specs.Acting.{Acting, acting_checks}
use Rattle.step_numbers.proofs.ActingSteps as acting

-- a kind k whose checks are those of inherit, with the test `other` of the replica to begin from
pub record Beginning (k : Kind) (other : List ℕ → ℕ → ℕ → ℕ → Bool) : Type 0 where
  pub fourth : most_fourth (Ok k) ≡ 15
  pub checks : (w : List ℕ) (z j h g : ℕ)
      → kind_checks (Ok k) w z j h g
      ≡ is_installed w z j or_else 10
      ∷ has_member (members w z j) h or_else 11
      ∷ is_pending (replica_of w (configuration w z j) h) or_else 12
      ∷ other w z j g or_else 13
      ∷ []

module _ {k : Kind} {other : List ℕ → ℕ → ℕ → ℕ → Bool} (i : Beginning k other) (w : List ℕ) (z j h g : ℕ) where
  pub nowhere : (x : Rejection) → rejection_number x ≡ first_of (acting_checks k w z j h g)
      → (rejection_number x ≡ kind_answer (Ok k) w z j h g) × (w ≡ kind_after (Ok k) w z j h g)
  nowhere x e = acting.nowhere k w z j h g _ (i.checks w z j h g) x e

  -- p is the acting host's replica
  module _ {p : ℕ} (s : Acting k w z j h g p) where
    at : At w z j h p
    at = acting.acting_at s

    -- the other number is a host too
    pub other_host : g < 16
    other_host = omega (arith, fourth_small (Ok k) w z j h g s.numbers (known k), i.fourth)

    pub not_pending : (get_or w p 0 ≡ 1 → ⊥) → (12 ≡ kind_answer (Ok k) w z j h g) × (w ≡ kind_after (Ok k) w z j h g)
    unfolding first_of
    not_pending m =
        rejects (Ok k) w z j h g s.numbers WrongMode
        (rw (i.checks w z j h g, at.there, at.member, at.replica_is, pending_word w p, ne_eqb _ _ m))

    module _ (pending : get_or w p 0 ≡ 1) where
      -- a pending replica is of no first configuration
      pub later : Ready w z j → 1 ≤ j
      later r =
          ((member_proper (formed r.state) r.shard r.configuration h at.member
          ).waits (rw at.replica_is (pending_word w p ∙ eq-eqb _ _ pending))).1

      -- all that is left is the last check
      last : cond (other w z j g) 0 13 ≡ first_of (kind_checks (Ok k) w z j h g)
      unfolding first_of
      last = rw (i.checks w z j h g, at.there, at.member, at.replica_is, pending_word w p, eq-eqb _ _ pending)

      pub not_other : other w z j g ≡ false → (13 ≡ kind_answer (Ok k) w z j h g) × (w ≡ kind_after (Ok k) w z j h g)
      not_other f = rejects (Ok k) w z j h g s.numbers NoSource (rw f at last)

      pub begins : other w z j g ≡ true → {v : List ℕ} → v ≡ kind_effect (Ok k) w z j h g
          → (0 ≡ kind_answer (Ok k) w z j h g) × (v ≡ kind_after (Ok k) w z j h g)
      begins f x = accepts (Ok k) w z j h g s.numbers (rw f at last) x
