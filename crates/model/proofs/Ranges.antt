-- Laws of tests that are equal, and of loops that test a range or a list place by place.
use Prim.Native.Nat.{ℕ, suc, ◌+◌, ◌-◌, ◌≤◌, ◌<◌}
use native.Mathlib.Numerals.{add-one}
use native.Mathlib.Omega.{arith}
use mathlib.Core.Path.{◌≡◌, refl, sym, subst, ◌∙◌}
use mathlib.Core.Bool.{Bool, true, false, ◌&&◌, false≢true}
use mathlib.Core.List.{List, [], ◌∷◌}
use lib.Dec.{ltb}
use lib.ListN.{length, get_or}
use borrow.Author.Tests.{ltb-true, ltb-false}
use Rattle.model.specs.Tests.{all_below, all_of}
use Rattle.model.proofs.Tests.{both, all_below_lem, below_all}
use Rattle.model.proofs.WellFormedParts.{all_at}

-- two tests that pass together are one
pub same_test : (a b : Bool) → (a ≡ true → b ≡ true) → (b ≡ true → a ≡ true) → a ≡ b
same_test true b f g = sym (f refl)
same_test false true f g = g refl
same_test false false f g = refl

-- a test that cannot pass fails
pub not_passed : (a : Bool) → (a ≡ true → ⊥) → false ≡ a
not_passed true f = absurd (f refl)
not_passed false f = refl

-- ---- a range

pub one_more : (i : ℕ) (f : ℕ → Bool) → all_below (i + 1) f ≡ (all_below i f && f i)
unfolding all_below
one_more i f = rw add-one

-- a loop's turn that passes, one that fails, and its end
pub more : (i : ℕ) (f : ℕ → Bool) → true ≡ all_below i f → true ≡ f i → true ≡ all_below (i + 1) f
more i f e d = sym (one_more i f ∙ (both (all_below i f) (f i)).1 (sym e, sym d))

pub fails : (n i : ℕ) (f : ℕ → Bool) → i < n → false ≡ f i → false ≡ all_below n f
fails n i f l d = not_passed (all_below n f) (λ e. false≢true (d ∙ all_below_lem n f e i l))

-- two tests that agree below n pass there together
pub alike : (n : ℕ) (f g : ℕ → Bool) → ((i : ℕ) → i < n → f i ≡ g i) → all_below n f ≡ all_below n g
alike n f g h =
    same_test (all_below n f) (all_below n g) (λ e. below_all n g (λ i l. sym (h i l) ∙ all_below_lem n f e i l))
    (λ e. below_all n f (λ i l. h i l ∙ all_below_lem n g e i l))

-- a range in two parts
pub parted : (a b : ℕ) (f : ℕ → Bool) → all_below (a + b) f ≡ (all_below a f && all_below b (λ i. f (a + i)))
parted a b f =
    same_test (all_below (a + b) f) (all_below a f && all_below b (λ i. f (a + i)))
    (λ e. (both (all_below a f) (all_below b (λ i. f (a + i)))).1 (
      below_all a f (λ i h. all_below_lem (a + b) f e i (omega arith)),
      below_all b (λ i. f (a + i)) (λ i h. all_below_lem (a + b) f e (a + i) (omega arith)),
    ))
    (λ e.
    let t = (both (all_below a f) (all_below b (λ i. f (a + i)))).0 e in
    below_all (a + b) f (λ i h. place i h t.0 t.1 (ltb i a) refl))
  where
    place : (i : ℕ) → i < a + b → all_below a f ≡ true → all_below b (λ k. f (a + k)) ≡ true → (c : Bool) → ltb i a ≡ c → f i ≡ true
    place i h p q true e = all_below_lem a f p i (ltb-true i a e)
    place i h p q false e =
        let l = ltb-false i a e in
        subst (λ (k : ℕ). f k ≡ true) (omega arith) (all_below_lem b (λ k. f (a + k)) q (i - a) (omega arith))

-- ---- a list

below_of : (f : ℕ → Bool) (l : List ℕ) → ((i : ℕ) → i < length l → f (get_or l i 0) ≡ true) → all_of f l ≡ true
unfolding all_of
below_of f [] h = refl
below_of f (x ∷ l) h = (both (f x) (all_of f l)).1 (h 0 (omega arith), below_of f l (λ i k. h (suc i) (omega arith)))

-- a test of every element is one of every place
pub of_below : (f : ℕ → Bool) (l : List ℕ) → all_of f l ≡ all_below (length l) (λ i. f (get_or l i 0))
of_below f l =
    same_test (all_of f l) (all_below (length l) (λ i. f (get_or l i 0)))
    (λ e. below_all (length l) (λ i. f (get_or l i 0)) (λ i h. all_at f l i e h))
    (λ e. below_of f l (all_below_lem (length l) (λ i. f (get_or l i 0)) e))
