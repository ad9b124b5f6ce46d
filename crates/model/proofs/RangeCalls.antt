-- What `all` and `any` over a range from 0 answer, where the closure computes a test.
use Prim.Native.Nat.{ℕ, zero, suc, ◌+◌}
use native.Mathlib.Omega.{arith}
use mathlib.Core.Path.{◌≡◌, refl, ap, ◌∙◌}
use mathlib.Core.Bool.{Bool, true, false, and-true, or-false}
use mathlib.Core.List.{List, [], ◌∷◌, ◌++◌}
use denote.Param.Members.{Mut}
use Rattle.std.specs.Prelude.{Option}
use Rattle.std.specs.declared.ops.Range.{Range}
use Rattle.std.specs.Fn.{Called}
use Rattle.std.specs.Option.{MatchOption}
use Rattle.std.specs.Iterator.{YieldsThen}
use Rattle.std.specs.List.{FoldsTo, list_all, list_any, range_with_len}
use Rattle.std.proofs.iter.Yields.{nat_range_steps}
use Rattle.std.proofs.lemmas.Iterator.{YieldsList-from_range}
use Rattle.std.proofs.lemmas.Iterator.Search.{all_from_yields_List, any_from_yields_List}
use Rattle.std.proofs.lemmas.List.Folds.{list_all-append, list_any-append}
use Rattle.model.specs.Tests.{all_below, any_below}

-- the last number of a range
last_of : (a n k : ℕ) → a + n ≡ k → range_with_len a (suc n) ≡ range_with_len a n ++ k ∷ []
last_of a zero k e = ap (λ (i : ℕ). i ∷ []) (omega (arith, e))
last_of a (suc n) k e = ap (λ l. a ∷ l) (last_of (a + 1) n k (omega (arith, e)))

all_numbers : (n : ℕ) (f : ℕ → Bool) → list_all f (range_with_len 0 n) ≡ all_below n f
unfolding all_below
all_numbers zero f = refl
all_numbers (suc n) f =
    ap (list_all f) (last_of 0 n n (omega arith)) ∙ list_all-append f (range_with_len 0 n) (n ∷ []) ∙ rw (all_numbers n f, and-true)

any_number : (n : ℕ) (f : ℕ → Bool) → list_any f (range_with_len 0 n) ≡ any_below n f
unfolding any_below
any_number zero f = refl
any_number (suc n) f =
    ap (list_any f) (last_of 0 n n (omega arith)) ∙ list_any-append f (range_with_len 0 n) (n ∷ []) ∙ rw (any_number n f, or-false)

module _ {F : Type 0} {g : Mut F (ℕ × Unit {0}) Bool} (n : ℕ) (test : ℕ → Bool) (u : Range ℕ) (f : F) (r : Bool) where
  pub all_in_range : (xs : List ℕ) × (o : Option ℕ) × (j : F) × YieldsThen nat_range_steps (record { start = 0; end = n }) xs o u
      × FoldsTo (λ p x q. Called g p (x, tt) true q) f xs j
      × MatchOption o (r ≡ true) (λ x. (r ≡ false) × ((h : F) × Called g j (x, tt) false h))
      → ((x : ℕ) (b : Bool) (q : F) → Called g f (x, tt) b q → (q ≡ f) × (b ≡ test x))
      → r ≡ all_below n test
  all_in_range d k =
      all_from_yields_List test u f r d (YieldsList-from_range 0 n n refl (omega arith)) k ∙ all_numbers n test

  pub any_in_range : (xs : List ℕ) × (o : Option ℕ) × (j : F) × YieldsThen nat_range_steps (record { start = 0; end = n }) xs o u
      × FoldsTo (λ p x q. Called g p (x, tt) false q) f xs j
      × MatchOption o (r ≡ false) (λ x. (r ≡ true) × ((h : F) × Called g j (x, tt) true h))
      → ((x : ℕ) (b : Bool) (q : F) → Called g f (x, tt) b q → (q ≡ f) × (b ≡ test x))
      → r ≡ any_below n test
  any_in_range d k =
      any_from_yields_List test u f r d (YieldsList-from_range 0 n n refl (omega arith)) k ∙ any_number n test
