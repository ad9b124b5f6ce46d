-- Numbers joined by `|` and `^`, so that one test tells of all of them. Assumes nothing.
use Prim.Native.Nat.{ℕ, ◌^◌, ◌≤◌}
use native.Mathlib.Omega.{arith}
use mathlib.Core.Path.{◌≡◌, sym, ap, ◌∙◌}
use mathlib.Core.Bool.{◌&&◌}
use lib.Bits.{bit_or, bit_xor, or_lt, or_add_and, xor_add_and, xor_self, and_le_l, and_le_r}
use lib.Dec.{ltb, eqb}
use borrow.Author.Tests.{eqb-true, eq-eqb, ltb-true, lt-ltb}
use Rattle.model.proofs.Tests.{both}
use Rattle.model.proofs.Ranges.{same_test}

-- neither is above what they are joined to
pub left_most : (a b : ℕ) → a ≤ bit_or a b
left_most a b = omega (arith, or_add_and a b, and_le_r a b)

pub right_most : (a b : ℕ) → b ≤ bit_or a b
right_most a b = omega (arith, or_add_and a b, and_le_l a b)

-- 0 where both are
pub or_zero : (a b : ℕ) → eqb (bit_or a b) 0 ≡ (eqb a 0 && eqb b 0)
or_zero a b =
    same_test (eqb (bit_or a b) 0) (eqb a 0 && eqb b 0)
    (λ e.
    let z = eqb-true (bit_or a b) 0 e in
    (both (eqb a 0) (eqb b 0)).1 (
      eq-eqb a 0 (omega (arith, z, left_most a b)),
      eq-eqb b 0 (omega (arith, z, right_most a b)),
    ))
    (λ e.
    let t = (both (eqb a 0) (eqb b 0)).0 e in
    eq-eqb (bit_or a b) 0 (omega (arith, eqb-true a 0 t.0, eqb-true b 0 t.1, or_add_and a b)))

-- below 2 ^ k where both are
pub or_below : (k a b : ℕ) → ltb (bit_or a b) (2 ^ k) ≡ (ltb a (2 ^ k) && ltb b (2 ^ k))
or_below k a b =
    same_test (ltb (bit_or a b) (2 ^ k)) (ltb a (2 ^ k) && ltb b (2 ^ k))
    (λ e.
    let h = ltb-true (bit_or a b) (2 ^ k) e in
    (both (ltb a (2 ^ k)) (ltb b (2 ^ k))).1 (
      lt-ltb a (2 ^ k) (omega (arith, h, left_most a b)),
      lt-ltb b (2 ^ k) (omega (arith, h, right_most a b)),
    ))
    (λ e.
    let t = (both (ltb a (2 ^ k)) (ltb b (2 ^ k))).0 e in
    lt-ltb (bit_or a b) (2 ^ k) (or_lt k a b (ltb-true a (2 ^ k) t.0) (ltb-true b (2 ^ k) t.1)))

-- 0 where they are the same
pub xor_zero : (a b : ℕ) → eqb (bit_xor a b) 0 ≡ eqb a b
xor_zero a b =
    same_test (eqb (bit_xor a b) 0) (eqb a b)
    (λ e.
    let z = eqb-true (bit_xor a b) 0 e in
    eq-eqb a b (omega (arith, z, xor_add_and a b, and_le_l a b, and_le_r a b)))
    (λ e. eq-eqb (bit_xor a b) 0 (ap (bit_xor a) (sym (eqb-true a b e)) ∙ xor_self a))
