-- Lists of 64 words end to end: zeros, and a store to the first word of one of them.
-- Assumes nothing.
use Prim.Native.Nat.{ℕ, zero, suc, ◌+◌, ◌*◌, ◌<◌}
use native.Mathlib.Nat.{le_refl}
use native.Mathlib.Omega.{arith}
use native.Mathlib.Decide.{dec_lt}
use mathlib.Core.Path.{◌≡◌, refl, sym, ap, ap₂, ◌∙◌}
use mathlib.Core.List.{List, ◌∷◌, ◌++◌, append_assoc}
use lib.ListN.{length, set, replicate, length-append, replicate-append-replicate}
use lib.Seq.{set_at, set-append_left}
use Rattle.model.specs.Tests.{concat_below}
use Rattle.model.proofs.Concat.{concat_length}

concat_same : (n : ℕ) (f g : ℕ → List ℕ) → ((i : ℕ) → i < n → f i ≡ g i) → concat_below n f ≡ concat_below n g
unfolding concat_below
concat_same zero f g e = refl
concat_same (suc n) f g e = ap₂ ◌++◌ (concat_same n f g (λ i h. e i (omega arith))) (e n (le_refl (suc n)))

pub concat_zeros : (n : ℕ) (f : ℕ → List ℕ) → ((i : ℕ) → f i ≡ replicate 64 0) → concat_below n f ≡ replicate (n * 64) 0
unfolding concat_below
concat_zeros zero f e = refl
concat_zeros (suc n) f e =
    let s : n * 64 + 64 ≡ suc n * 64 = omega arith in
    ap₂ ◌++◌ (concat_zeros n f e) (e n) ∙ replicate-append-replicate (n * 64) 64 0 ∙ ap (λ (k : ℕ). replicate k 0) s

-- g is f with v for the first word of list i
module _ (p : List ℕ) (f g : ℕ → List ℕ) (long : (k : ℕ) → length (f k) ≡ 64) (i x v : ℕ) (rest : List ℕ)
    (old : f i ≡ x ∷ rest) (new : g i ≡ v ∷ rest) (other : (k : ℕ) → (k ≡ i → ⊥) → f k ≡ g k) where
  before_length : (n : ℕ) → length (p ++ concat_below n f) ≡ length p + n * 64
  before_length n = length-append p (concat_below n f) ∙ ap (λ (k : ℕ). length p + k) (concat_length 64 f n (λ k h. long k))

  pub concat_store : (n : ℕ) → i < n → set (p ++ concat_below n f) (length p + i * 64) v ≡ p ++ concat_below n g
  unfolding concat_below
  concat_store zero h = absurd (omega arith)
  concat_store (suc n) h = go (dec_lt i n) (concat_store n)
    where
      a : List ℕ
      a = concat_below n f

      b : List ℕ
      b = concat_below n g

      at : ℕ
      at = length p + i * 64

      go : Dec (i < n) → (i < n → set (p ++ a) at v ≡ p ++ b) → set (p ++ (a ++ f n)) at v ≡ p ++ (b ++ g n)
      go (yes l) earlier =
          ap (λ (l : List ℕ). set l at v) (sym (append_assoc p a (f n)))
          ∙ set-append_left (p ++ a) (f n) at v (omega (arith, before_length n))
          ∙ ap₂ ◌++◌ (earlier l) (other n (omega arith)) ∙ append_assoc p b (g n)
      go (no l) earlier =
          let s : n ≡ i = omega arith in
          ap (λ (l : List ℕ). set l at v) (ap (λ (l : List ℕ). p ++ (a ++ l)) (ap f s ∙ old) ∙ sym (append_assoc p a (x ∷ rest)))
          ∙ set_at (p ++ a) x rest v at (before_length n ∙ omega arith)
          ∙ append_assoc p a (v ∷ rest)
          ∙ ap₂ (λ (k l : List ℕ). p ++ (k ++ l)) (concat_same n f g (λ k m. other k (omega arith))) (sym (ap g s ∙ new))
