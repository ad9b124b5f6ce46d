-- An inherit, by the words that the code looks at: its source, and what it leaves.
-- Assumes nothing.
use Prim.Native.Nat.{ℕ, ◌+◌, ◌-◌}
use mathlib.Core.Path.{◌≡◌, refl, ◌∙◌}
use mathlib.Core.List.{List}
use lib.ListN.{get_or}
use borrow.Author.Tests.{eq-eqb, ne_eqb}
use Rattle.std.specs.Prelude.{Ok, Err}
use Rattle.types.specs.declared.kind.Kind.TheVariants.{Inherit}
use Rattle.types.specs.declared.rejection.Rejection.{Rejection}
use Rattle.types.specs.Rules.{most_fourth}
use Rattle.model.specs.Replicas.{inherited}
use Rattle.model.specs.Layout.{replica_at, put_replica}
use Rattle.model.specs.Steps.{kind_checks, kind_effect}
use Rattle.model.specs.Inherit.{is_source, source, inherit_checks, inherit_effect}
use Rattle.lookup.specs.Ready.{Ready, ReadyHost, Placed, HoldsReplica}
use Rattle.lookup.specs.FoundReplicas.{found_of}
use Rattle.lookup.specs.KindContracts.{kind_answer, kind_after}
use Rattle.step_numbers.specs.Acting.{Acting}
use Rattle.model.proofs.Fields.{stable_word}
use Rattle.lookup.proofs.FoundReplicas.{At, at_found, words_at}
use Rattle.copying.specs.Copies.{copied}
use Rattle.step_numbers.proofs.ActingSteps.{acting_at}
use Rattle.inherit_steps.proofs.Beginnings.{Beginning, other_host, not_other, begins}
use Rattle.inherit_steps.proofs.InheritSource.{ready_before, no_source_lem, source_word}

pub inheriting : Beginning Inherit is_source
unfolding most_fourth kind_checks inherit_checks
inheriting = record { fourth = refl; checks = λ w z j h g. refl }

-- p is the acting host's replica
module _ {w : List ℕ} {z j : ℕ} (r : Ready w z j) (h g : ℕ) {p : ℕ} (s : Acting Inherit w z j h g p) where
  -- the source is looked for in the configuration before
  pub before : ReadyHost w z (j - 1) g
  before = record { ready = ready_before r; host = other_host inheriting w z j h g s }

  -- .. which is pending
  module _ (pending : get_or w p 0 ≡ 1) where
    pub not_there : (x : Rejection) → Err x ≡ found_of w z (j - 1) g
        → (13 ≡ kind_answer (Ok Inherit) w z j h g) × (w ≡ kind_after (Ok Inherit) w z j h g)
    not_there x t = not_other inheriting w z j h g s pending (no_source_lem w z j g x t s.there)

    -- q is that of the source
    module _ {q : ℕ} (t : Ok q ≡ found_of w z (j - 1) g) where
      from : At w z (j - 1) g q
      from = at_found w z (j - 1) g t q refl

      pub not_immutable_lem : (get_or w q 0 ≡ 3 → ⊥) → (13 ≡ kind_answer (Ok Inherit) w z j h g) × (w ≡ kind_after (Ok Inherit) w z j h g)
      not_immutable_lem m = not_other inheriting w z j h g s pending (source_word j from ∙ ne_eqb _ _ m)

      pub holds : Placed w q → HoldsReplica w q
      holds m = record { placed = m; words = words_at from (ready_before r) }

      pub done : get_or w q 0 ≡ 3 → {v : List ℕ}
          → v ≡ put_replica w p (copied 2 (get_or w (q + 2) 0) (g + 1) (replica_at w q))
          → (0 ≡ kind_answer (Ok Inherit) w z j h g) × (v ≡ kind_after (Ok Inherit) w z j h g)
      unfolding kind_effect inherit_effect inherited source
      done m x =
          begins inheriting w z j h g s pending (source_word j from ∙ eq-eqb _ _ m)
          (x ∙ rw ((acting_at s).place_is, from.replica_is, stable_word w q))
