-- Words that are the same: what differs, joined by `|`, is 0.
-- Assumes nothing.
use Rattle.std.proofs.Common.{◌≡◌, ℕ, Bool, ◌&&◌, eqb, List, [], ◌∷◌, length, bit_or, sym, ap, ◌∙◌, arith}
use mathlib.Core.Bool.{and_assoc, and-true}
use lib.Bits.{bit_xor}
use Rattle.std.specs.List.{fold, zip}
use Rattle.model.specs.Tests.{same}
use Rattle.model.proofs.Joined.{or_zero, xor_zero}

-- what two words differ in, joined to x
abbrev pub differ : ℕ → ℕ × ℕ → ℕ
differ x p = bit_or x (bit_xor p.0 p.1)

differ_zero : (x y z : ℕ) → eqb (differ x (y, z)) 0 ≡ (eqb x 0 && eqb y z)
differ_zero x y z = or_zero x (bit_xor y z) ∙ ap (λ (b : Bool). eqb x 0 && b) (xor_zero y z)

joined : (x : ℕ) (l m : List ℕ) → length l ≡ length m → eqb (fold differ x (zip l m)) 0 ≡ (eqb x 0 && same l m)
unfolding same
joined x [] [] h = sym (and-true (eqb x 0))
joined x [] (z ∷ m) h = absurd (omega arith)
joined x (y ∷ l) [] h = absurd (omega arith)
joined x (y ∷ l) (z ∷ m) h =
    joined (differ x (y, z)) l m (omega arith) ∙ ap (λ (b : Bool). b && same l m) (differ_zero x y z) ∙ and_assoc (eqb x 0) (eqb y z) (same l m)

pub joined_same : (l m : List ℕ) → length l ≡ length m → eqb (fold differ 0 (zip l m)) 0 ≡ same l m
joined_same l m h = joined 0 l m h
