-- Laws of what the chains over a list of words answer: of `all`, and of a fold whose result is tested once.
-- Assumes nothing.
use Rattle.std.proofs.Common.{◌≡◌, ℕ, zero, suc, ◌+◌, ◌*◌, Bool, ◌&&◌, List, [], ◌∷◌, ◌++◌, take, drop, refl, sym, ap, ◌∙◌, arith}
use lib.ListN.{take-append-drop}
use lib.Seq.{drop-drop}
use Rattle.std.specs.Simd.{first_chunks}
use mathlib.Core.Bool.{and_assoc, and-true}
use Rattle.std.specs.List.{fold, list_all}
use Rattle.model.specs.Tests.{all_of}

joined_all : (f : ℕ → Bool) (l m : List ℕ) → all_of f (l ++ m) ≡ (all_of f l && all_of f m)
unfolding all_of
joined_all f [] m = refl
joined_all f (x ∷ l) m = ap (λ (b : Bool). f x && b) (joined_all f l m) ∙ sym (and_assoc (f x) (all_of f l) (all_of f m))

pub all_listed : (f : ℕ → Bool) (l : List ℕ) → list_all f l ≡ all_of f l
unfolding all_of
all_listed f [] = refl
all_listed f (x ∷ l) = ap (λ (b : Bool). f x && b) (all_listed f l)

-- .. four elements a turn, and then what is left
pub all_in_fours : (f : ℕ → Bool) (k : ℕ) (l : List ℕ) → (list_all (all_of f) (first_chunks 4 k l) && all_of f (drop (k * 4) l)) ≡ all_of f l
all_in_fours f zero l = refl
all_in_fours f (suc k) l =
    let four : List ℕ = take 4 l in
    let fours : Bool = list_all (all_of f) (first_chunks 4 k (drop 4 l)) in
    let next : suc k * 4 ≡ 4 + k * 4 = omega arith in
    and_assoc (all_of f four) fours (all_of f (drop (suc k * 4) l))
    ∙ ap (λ (m : List ℕ). all_of f four && (fours && all_of f m)) (ap (λ (i : ℕ). drop i l) next ∙ sym (drop-drop (k * 4) 4 l))
    ∙ ap (λ (b : Bool). all_of f four && b) (all_in_fours f k (drop 4 l))
    ∙ sym (joined_all f four (drop 4 l)) ∙ ap (all_of f) (take-append-drop 4 l)

-- where the test of a step's result is the test of what it begins with and a test of the element
pub fold_tested :
    {A : Type 0} (step : ℕ → A → ℕ) (joined : ℕ → Bool) (each : A → Bool) → ((x : ℕ) (e : A) → joined (step x e) ≡ (joined x && each e))
    → (x : ℕ) (l : List A) → joined (fold step x l) ≡ (joined x && list_all each l)
fold_tested step joined each h x [] = sym (and-true (joined x))
fold_tested step joined each h x (e ∷ l) =
    fold_tested step joined each h (step x e) l ∙ ap (λ (b : Bool). b && list_all each l) (h x e)
    ∙ and_assoc (joined x) (each e) (list_all each l)
