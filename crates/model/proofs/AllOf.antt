-- Laws of a test that passes at every element of a list. Assumes nothing.
use Prim.Native.Nat.{ℕ, zero, suc}
use mathlib.Core.Path.{◌≡◌, refl}
use mathlib.Core.Bool.{Bool, true, and-eq-true_iff}
use mathlib.Core.List.{List, [], ◌∷◌}
use lib.ListN.{take, drop, get_or}
use Rattle.model.specs.Tests.{all_of}

module _ (f : ℕ → Bool) where
  pub all_head : (x : ℕ) (xs : List ℕ) → all_of f (x ∷ xs) ≡ true → f x ≡ true
  unfolding all_of
  all_head x xs e = ((and-eq-true_iff (f x) (all_of f xs)).0 e).0

  pub all_tail : (x : ℕ) (xs : List ℕ) → all_of f (x ∷ xs) ≡ true → all_of f xs ≡ true
  unfolding all_of
  all_tail x xs e = ((and-eq-true_iff (f x) (all_of f xs)).0 e).1

  pub all_cons : (x : ℕ) (xs : List ℕ) → f x ≡ true → all_of f xs ≡ true → all_of f (x ∷ xs) ≡ true
  unfolding all_of
  all_cons x xs e g = (and-eq-true_iff (f x) (all_of f xs)).1 (e, g)

  pub all_take : (n : ℕ) (xs : List ℕ) → all_of f xs ≡ true → all_of f (take n xs) ≡ true
  unfolding all_of
  all_take zero xs e = refl
  all_take (suc n) [] e = e
  all_take (suc n) (x ∷ xs) e = all_cons x (take n xs) (all_head x xs e) (all_take n xs (all_tail x xs e))

  pub all_drop : (n : ℕ) (xs : List ℕ) → all_of f xs ≡ true → all_of f (drop n xs) ≡ true
  all_drop zero xs e = e
  all_drop (suc n) [] e = e
  all_drop (suc n) (x ∷ xs) e = all_drop n xs (all_tail x xs e)

  -- an element, or the default outside the list
  pub all_get_d : (xs : List ℕ) (n d : ℕ) → f d ≡ true → all_of f xs ≡ true → f (get_or xs n d) ≡ true
  all_get_d [] n d h e = h
  all_get_d (x ∷ xs) zero d h e = all_head x xs e
  all_get_d (x ∷ xs) (suc n) d h e = all_get_d xs n d h (all_tail x xs e)
