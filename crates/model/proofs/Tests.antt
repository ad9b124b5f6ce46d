-- Laws of tests: what a conjunction and a test of a range say, and how they pass.
use Prim.Native.Nat.{ℕ, zero, suc, ◌<◌}
use native.Mathlib.Nat.{le_refl}
use native.Mathlib.Omega.{arith}
use native.Mathlib.Decide.{dec_lt}
use mathlib.Core.Path.{◌≡◌, refl, sym, subst}
use mathlib.Core.Logic.{◌↔◌}
use mathlib.Core.Bool.{Bool, true, false, ◌&&◌, ◌||◌, or-true, false≢true}
use mathlib.Core.List.{List, [], ◌∷◌}
use Rattle.model.specs.Tests.{all_below, any_below}

-- a conjunction of two tests passes where both pass
pub both : (a b : Bool) → (a && b ≡ true) ↔ ((a ≡ true) × (b ≡ true))
both true b = (λ e. (refl, e), λ k. k.1)
both false b = (λ e. absurd (false≢true e), λ k. k.0)

-- .. for `search`, which takes one test out of a conjunction wherever it stands there
pub and_left : (a b : Bool) → a && b ≡ true → a ≡ true
and_left a b e = ((both a b).0 e).0

pub and_right : (a b : Bool) → a && b ≡ true → b ≡ true
and_right a b e = ((both a b).0 e).1

-- two tests of which neither passes
pub or_left : (a b : Bool) → a || b ≡ false → a ≡ false
or_left true b e = e
or_left false b e = refl

pub or_right : (a b : Bool) → a || b ≡ false → b ≡ false
or_right true b e = absurd (false≢true (sym e))
or_right false b e = e

-- the conjunction a && b && .. of several tests, and that each of them passes
abbrev pub conjunction : Bool → List Bool → Bool
conjunction a [] = a
conjunction a (b ∷ bs) = conjunction (a && b) bs

abbrev pub Passing : List Bool → Type 0
Passing [] = Unit {0}
Passing (b ∷ bs) = (b ≡ true) × Passing bs

-- the proofs of several tests, one after the other and `tt` last
infixr 3 ◌also◌
abbrev pub ◌also◌ : {A B : Type 0} → A → B → A × B
a also b = (a, b)

pub all_pass : (a : Bool) (bs : List Bool) → conjunction a bs ≡ true → Passing (a ∷ bs)
all_pass a [] e = (e, tt)
all_pass a (b ∷ bs) e =
    let p = all_pass (a && b) bs e in
    let t = (both a b).0 p.0 in
    (t.0, (t.1, p.1))

pub pass_all : (a : Bool) (bs : List Bool) → Passing (a ∷ bs) → conjunction a bs ≡ true
pass_all a [] p = p.0
pass_all a (b ∷ bs) p = pass_all (a && b) bs ((both a b).1 (p.0, p.1.0), p.1.1)

-- a test of a range passes where it passes at each number below n
pub all_below_lem : (n : ℕ) (f : ℕ → Bool) → all_below n f ≡ true → (i : ℕ) → i < n → f i ≡ true
unfolding all_below
all_below_lem zero f e i h = absurd (omega arith)
all_below_lem (suc n) f e i h = go ((both (all_below n f) (f n)).0 e) (all_below_lem n f) (dec_lt i n)
  where
    go : (all_below n f ≡ true) × (f n ≡ true) → (all_below n f ≡ true → (k : ℕ) → k < n → f k ≡ true) → Dec (i < n) → f i ≡ true
    go b rest (yes l) = rest b.0 i l
    go b rest (no l) = subst (λ (k : ℕ). f k ≡ true) (omega arith) b.1

pub below_all : (n : ℕ) (f : ℕ → Bool) → ((i : ℕ) → i < n → f i ≡ true) → all_below n f ≡ true
unfolding all_below
below_all zero f h = refl
below_all (suc n) f h = (both (all_below n f) (f n)).1 (below_all n f (λ i l. h i (omega arith)), h n (le_refl (suc n)))

-- a test of some number of a range passes where it passes at one below n, and fails where it passes at none
pub record Below (n : ℕ) (f : ℕ → Bool) : Type 0 where
  pub number : ℕ
  pub small : number < n
  pub passes : f number ≡ true

pub any_below_lem : (n : ℕ) (f : ℕ → Bool) → any_below n f ≡ true → Below n f
unfolding any_below
any_below_lem zero f e = absurd (false≢true e)
any_below_lem (suc n) f e = go (any_below n f) refl e (any_below_lem n f)
  where
    go : (b : Bool) → any_below n f ≡ b → b || f n ≡ true → (any_below n f ≡ true → Below n f) → Below (suc n) f
    go true q p rest = let r = rest q in record { number = r.number; small = omega (arith, r.small); passes = r.passes }
    go false q p rest = record { number = n; small = le_refl (suc n); passes = p }

pub below_any : (n : ℕ) (f : ℕ → Bool) (i : ℕ) → i < n → f i ≡ true → any_below n f ≡ true
unfolding any_below
below_any zero f i h e = absurd (omega arith)
below_any (suc n) f i h e = go (dec_lt i n) (below_any n f i)
  where
    go : Dec (i < n) → (i < n → f i ≡ true → any_below n f ≡ true) → any_below n f || f n ≡ true
    go (yes l) rest = rw (rest l e)
    go (no l) rest = let q : i ≡ n = omega arith in rw (sym q, e, or-true)
