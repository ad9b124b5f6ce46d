-- The replica of the acting host: what the look-up tells of the checks of a step's kind.
-- Assumes nothing.
use Prim.Native.Nat.{ℕ}
use mathlib.Core.Path.{◌≡◌, refl, ap, ◌∙◌}
use mathlib.Core.Bool.{Bool, true, false, cond}
use mathlib.Core.List.{List, [], ◌∷◌}
use lib.ListN.{length}
use borrow.Author.Tests.{eqb-false}
use Rattle.std.specs.Prelude.{Result, Ok, Err, IfOk}
use Rattle.types.specs.declared.kind.Kind.{Kind}
use Rattle.types.specs.declared.rejection.Rejection.{Rejection}
use Rattle.types.specs.Members.{has_member}
use Rattle.types.specs.Rejections.{rejection_number, answer_number}
use Rattle.model.specs.Checks.{Check, first_of, ◌or_else◌}
use Rattle.model.specs.Configuration.{replica_of}
use Rattle.model.specs.Layout.{shards_of, is_installed, members, replica_at}
use Rattle.model.specs.Steps.{are_numbers, kind_checks}
use Rattle.lookup.specs.Ready.{Placed}
use Rattle.lookup.specs.FoundReplicas.{found_of}
use Rattle.lookup.specs.KindContracts.{kind_answer, kind_after}
use Rattle.types.proofs.Rejections.{number_not_0}
use Rattle.lookup.proofs.FoundReplicas.{At, at_found, early}
use Rattle.lookup.proofs.KindAnswers.{left}
use Rattle.step_numbers.specs.Acting.{Acting, acting_checks}

-- ---- what the look-up gives, the numbers having passed

module _ (k : Kind) (w : List ℕ) (z j h d : ℕ) where
  pub out_of_range_lem : are_numbers (Ok k) (shards_of (length w)) h d ≡ false → 7 ≡ first_of (acting_checks k w z j h d)
  unfolding acting_checks first_of
  out_of_range_lem e = rw e

  module _ (e : are_numbers (Ok k) (shards_of (length w)) h d ≡ true) where
    pub found_number : (r : Result ℕ Rejection) → r ≡ found_of w z j h → answer_number r ≡ first_of (acting_checks k w z j h d)
    unfolding acting_checks first_of
    found_number (Ok p) f =
        let a = at_found w z j h f p refl in
        rw (e, a.there, a.member)
    found_number (Err x) f = rw e (early w z j h f x [] refl)

    pub found_acting : (r : Result ℕ Rejection) → r ≡ found_of w z j h → IfOk r (λ p. Placed w p) → IfOk r (λ p. Acting k w z j h d p)
    found_acting (Ok p) f l =
        let a = at_found w z j h f p refl in
        record { numbers = e; there = a.there; member = a.member; place_is = a.place_is; placed = l }
    found_acting (Err x) f l = tt

-- ---- the acting host's replica

pub acting_at : {k : Kind} {w : List ℕ} {z j h d p : ℕ} → Acting k w z j h d p → At w z j h p
unfolding replica_of
acting_at {k} {w} s = record { there = s.there; member = s.member; place_is = s.place_is; replica_is = ap (replica_at w) s.place_is }

-- checks that fail among the first are no matter of the others
first_three : (a b c : Bool) (m n : ℕ) → n ≡ cond a (cond b (cond c 0 11) 10) 7 → (n ≡ 0 → ⊥) → n ≡ cond a (cond b (cond c m 11) 10) 7
first_three true true true m n e z = absurd (z e)
first_three true true false m n e z = e
first_three true false c m n e z = e
first_three false b c m n e z = e

-- a kind that begins with these checks is rejected by them
pub nowhere : (k : Kind) (w : List ℕ) (z j h d : ℕ) (rest : List Check)
    → kind_checks (Ok k) w z j h d ≡ is_installed w z j or_else 10 ∷ has_member (members w z j) h or_else 11 ∷ rest
    → (x : Rejection) → rejection_number x ≡ first_of (acting_checks k w z j h d)
    → (rejection_number x ≡ kind_answer (Ok k) w z j h d) × (w ≡ kind_after (Ok k) w z j h d)
unfolding acting_checks kind_answer first_of
nowhere k w z j h d rest q x e =
    left (Ok k) w z j h d x
    (first_three (are_numbers (Ok k) (shards_of (length w)) h d) (is_installed w z j) (has_member (members w z j) h) (first_of rest)
    (rejection_number x) e (eqb-false _ _ (number_not_0 x))
    ∙ rw q)
