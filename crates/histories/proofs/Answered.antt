-- What an answer tells of the number by which it is given.
use Prim.Native.Nat.{ℕ}
use mathlib.Core.Path.{◌≡◌, refl, sym, ap, ◌∙◌}
use mathlib.Core.Bool.{Bool, true, false, cond}
use lib.Dec.{ltb, eqb}
use borrow.Author.Tests.{eqb-true}
use Rattle.std.specs.Prelude.{Result, Ok, Err}
use Rattle.types.specs.declared.rejection.Rejection.{Rejection}
use Rattle.types.specs.Rejections.{rejection_number, numbered, answered, answer_number}
use Rattle.types.proofs.OkErr.{ok_is, ok_err}
use Rattle.types.proofs.Rejections.{answered_number}

-- a value has the number 0
pub answered_ok : {A : Type 0} (n : ℕ) (x : A) {y : A} → Ok y ≡ answered n x → (n ≡ 0) × (y ≡ x)
unfolding answered
answered_ok {A} n x {y} e = go (eqb n 0) refl e
  where
    go : (t : Bool) → eqb n 0 ≡ t → Ok y ≡ cond {A = Result A Rejection} t (Ok x) (Err (numbered n)) → (n ≡ 0) × (y ≡ x)
    go true q f = (eqb-true n 0 q, ok_is f)
    go false q f = absurd (ok_err f)

-- a rejection has its own
pub answered_err : {A : Type 0} (n : ℕ) (x : A) → ltb n 25 ≡ true → {r : Rejection} → Err r ≡ answered n x → n ≡ rejection_number r
answered_err {A} n x h e = sym (ap (answer_number {A = A}) e ∙ answered_number n x h)
