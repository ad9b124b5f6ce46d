-- A step of a kind: what it answers and leaves, by the tests that it makes in turn.
-- Assumes nothing.
use Prim.Native.Nat.{ℕ, ◌≤◌, ◌<◌}
use mathlib.Core.Path.{◌≡◌, sym, ap, ◌∙◌}
use mathlib.Core.Bool.{Bool, true, false}
use mathlib.Core.List.{List}
use lib.ListN.{length}
use Rattle.types.specs.declared.rejection.Rejection.{Rejection}
use Rattle.types.specs.declared.rejection.Rejection.TheVariants.{OutOfRange}
use Rattle.types.specs.Rejections.{rejection_number}
use Rattle.model.specs.Checks.{first_of}
use Rattle.types.specs.Kinds.{NamedKind, names_host}
use Rattle.types.specs.Rules.{Known, most_fourth}
use Rattle.model.specs.Layout.{shards_of}
use Rattle.model.specs.Steps.{are_numbers, kind_checks, kind_effect}
use Rattle.types.proofs.Rejections.{number_not_0}
use Rattle.model.proofs.StepNumbers.{numbers_tell, host_told}
use Rattle.lookup.specs.KindContracts.{ReadyKind, kind_answer, kind_after}

-- the test of the third and the fourth number, as the code made it
pub tested : (k : NamedKind) {w : List ℕ} {n z j : ℕ} → ReadyKind w n z j → (c d : ℕ) {b t : Bool} → b ≡ are_numbers k n c d → b ≡ t
    → are_numbers k (shards_of (length w)) c d ≡ t
tested k p c d test e = ap (λ (m : ℕ). are_numbers k m c d) (sym p.count) ∙ sym test ∙ e

module _ (k : NamedKind) (w : List ℕ) (z j c d : ℕ) where
  -- a step that is rejected leaves the state
  pub left : (r : Rejection) → rejection_number r ≡ kind_answer k w z j c d
      → (rejection_number r ≡ kind_answer k w z j c d) × (w ≡ kind_after k w z j c d)
  unfolding kind_after
  left r e = (e, rw (← e, number_not_0 r))

  -- a number is out of range
  pub out_of_range_lem : are_numbers k (shards_of (length w)) c d ≡ false → (7 ≡ kind_answer k w z j c d) × (w ≡ kind_after k w z j c d)
  unfolding kind_answer first_of
  out_of_range_lem e = left OutOfRange (rw e)

  -- both are in range
  module _ (e : are_numbers k (shards_of (length w)) c d ≡ true) where
    checked : first_of (kind_checks k w z j c d) ≡ kind_answer k w z j c d
    unfolding kind_answer first_of
    checked = rw e

    pub rejects : (r : Rejection) → rejection_number r ≡ first_of (kind_checks k w z j c d)
        → (rejection_number r ≡ kind_answer k w z j c d) × (w ≡ kind_after k w z j c d)
    rejects r q = left r (q ∙ checked)

    pub accepts : {v : List ℕ} → 0 ≡ first_of (kind_checks k w z j c d) → v ≡ kind_effect k w z j c d
        → (0 ≡ kind_answer k w z j c d) × (v ≡ kind_after k w z j c d)
    unfolding kind_after
    accepts q f = (q ∙ checked, f ∙ rw (← checked, ← q))

    pub fourth_small : Known k → d ≤ most_fourth k
    fourth_small h = (numbers_tell k h (shards_of (length w)) c d e).1

    pub host_small : Known k → names_host k ≡ true → c < 16
    host_small h t = host_told k h t (shards_of (length w)) c d e
