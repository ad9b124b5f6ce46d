-- Lists of one length end to end: each stands at its place.
use Prim.Native.Nat.{ℕ, zero, suc, ◌+◌, ◌*◌, ◌≤◌, ◌<◌}
use native.Mathlib.Nat.{suc-mul, zero-mul, mul-le-mul_right, le_refl}
use native.Mathlib.Omega.{arith}
use native.Mathlib.Decide.{dec_lt}
use mathlib.Core.Path.{◌≡◌, refl, sym, ◌∙◌, subst}
use mathlib.Core.List.{List, [], ◌∷◌, ◌++◌}
use lib.ListN.{length, take, drop, length-append, length-drop}
use lib.Seq.{take-append-le, drop-append-le, drop_at, take_all, take-take}
use Rattle.model.specs.Tests.{concat_below}

module _ (s : ℕ) (f : ℕ → List ℕ) where
  pub concat_length : (n : ℕ) → ((i : ℕ) → i < n → length (f i) ≡ s) → length (concat_below n f) ≡ n * s
  unfolding concat_below
  concat_length zero e = sym (zero-mul s)
  concat_length (suc n) e =
      length-append (concat_below n f) (f n)
      ∙ omega (arith, suc-mul n s, e n (le_refl (suc n)), concat_length n (λ i h. e i (omega arith)))

  pub concat_part : (n : ℕ) → ((i : ℕ) → i < n → length (f i) ≡ s) → (i : ℕ) → i < n → take s (drop (i * s) (concat_below n f)) ≡ f i
  unfolding concat_below
  concat_part zero e i h = absurd (omega arith)
  concat_part (suc n) e i h = go (dec_lt i n) (concat_part n (λ k l. e k (omega arith)) i)
    where
      size : length (concat_below n f) ≡ n * s
      size = concat_length n (λ k l. e k (omega arith))

      go : Dec (i < n) → (i < n → take s (drop (i * s) (concat_below n f)) ≡ f i) → take s (drop (i * s) (concat_below n f ++ f n)) ≡ f i
      go (yes l) rest =
          let b : i * s + s ≤ n * s = omega (arith, suc-mul i s, mul-le-mul_right s l) in
          rw (drop-append-le (i * s) (concat_below n f) (f n) (omega (arith, size)))
          (take-append-le s (drop (i * s) (concat_below n f)) (f n) (omega (arith, size, length-drop (i * s) (concat_below n f))) ∙ rest l)
      go (no l) rest =
          let last : n ≡ i = omega arith in
          subst (λ (k : ℕ). take s (drop (k * s) (concat_below n f ++ f n)) ≡ f k) last
          (rw (drop_at (concat_below n f) (f n) (n * s) size) (take_all s (f n) (omega (arith, e n (le_refl (suc n))))))

-- a part of a part
pub part_of_part : (a n m : ℕ) (l : List ℕ) → a + n ≤ m → take n (drop a (take m l)) ≡ take n (drop a l)
part_of_part zero n m l h = take-take n m l (omega arith)
part_of_part (suc a) n zero l h = absurd (omega arith)
part_of_part (suc a) n (suc m) [] h = refl
part_of_part (suc a) n (suc m) (x ∷ l) h = part_of_part a n m l (omega arith)
