-- Laws of words that are all 0: joined by `|` they are 0, and they are so many zeros.
use Rattle.std.proofs.Common.{◌≡◌, ℕ, ◌+◌, ◌-◌, ◌≤◌, true, ◌&&◌, eqb, List, length, get_or, take, drop, replicate, sym, ap, ◌∙◌, ap₂, arith, length-drop, length-take-le, get_or-drop, take_all, get_or-take, ext_get_or, eq-eqb, eqb-true}
use lib.Bits.{bit_or}
use lib.ListN.{length-replicate, get_or-replicate}
use Rattle.model.specs.Tests.{all_below}
use Rattle.model.proofs.Tests.{all_below_lem, below_all}
use Rattle.model.proofs.Ranges.{of_below, parted, alike}
use Rattle.model.proofs.Joined.{or_zero}
use Rattle.std.specs.List.{fold}
use Rattle.wellformed_entries.specs.Zeros.{zeros}
use Rattle.wellformed_entries.proofs.Folds.{all_listed, fold_tested}

-- ---- words joined

pub joined_zeros : (l : List ℕ) → eqb (fold bit_or 0 l) 0 ≡ zeros l
joined_zeros l = fold_tested bit_or (λ x. eqb x 0) (λ x. eqb x 0) or_zero 0 l ∙ all_listed (λ x. eqb x 0) l ∙ of_below (λ x. eqb x 0) l

-- ---- as many zeros

pub zeros_replicate : (n : ℕ) → zeros (replicate n 0) ≡ true
zeros_replicate n =
    below_all (length (replicate n 0)) (λ i. eqb (get_or (replicate n 0) i 0) 0)
    (λ i h. eq-eqb (get_or (replicate n 0) i 0) 0 (get_or-replicate n i 0 0 (omega (arith, length-replicate {A = ℕ} n 0))))

pub replicate_zeros : (l : List ℕ) (n : ℕ) → length l ≡ n → zeros l ≡ true → l ≡ replicate n 0
replicate_zeros l n s e =
    ext_get_or 0 l (replicate n 0) (s ∙ sym (length-replicate n 0))
    (λ i h. eqb-true (get_or l i 0) 0 (all_below_lem (length l) (λ i. eqb (get_or l i 0) 0) e i h)
    ∙ sym (get_or-replicate n i 0 0 (omega arith)))

-- ---- parts

pub to_end : (n : ℕ) (l : List ℕ) → take (length l - n) (drop n l) ≡ drop n l
to_end n l = take_all (length l - n) (drop n l) (omega (arith, length-drop n l))

module _ (n at : ℕ) (l : List ℕ) (fits : at + n ≤ length l) where
  pub part_length : length (take n (drop at l)) ≡ n
  part_length = length-take-le n (drop at l) (omega (arith, length-drop at l))

  -- the zeros of a part, where they are in the list
  pub zeros_at : zeros (take n (drop at l)) ≡ all_below n (λ i. eqb (get_or l (at + i) 0) 0)
  zeros_at =
      ap (λ (m : ℕ). all_below m (λ i. eqb (get_or (take n (drop at l)) i 0) 0)) part_length
      ∙ alike n (λ i. eqb (get_or (take n (drop at l)) i 0) 0) (λ i. eqb (get_or l (at + i) 0) 0)
      (λ i h. ap (λ (x : ℕ). eqb x 0) (get_or-take n (drop at l) i 0 h ∙ get_or-drop at l i 0))

-- words in two parts
pub zeros_parted : (n : ℕ) (l : List ℕ) → n ≤ length l → zeros l ≡ (zeros (take n l) && zeros (drop n l))
zeros_parted n l h =
    ap (λ (m : ℕ). all_below m (λ i. eqb (get_or l i 0) 0)) (omega (arith, length-drop n l))
    ∙ parted n (length (drop n l)) (λ i. eqb (get_or l i 0) 0)
    ∙ ap₂ ◌&&◌ (sym first) (alike (length (drop n l)) (λ i. eqb (get_or l (n + i) 0) 0) (λ i. eqb (get_or (drop n l) i 0) 0)
    (λ i k. ap (λ (x : ℕ). eqb x 0) (sym (get_or-drop n l i 0))))
  where
    first : zeros (take n l) ≡ all_below n (λ i. eqb (get_or l i 0) 0)
    first =
        ap (λ (m : ℕ). all_below m (λ i. eqb (get_or (take n l) i 0) 0)) (length-take-le n l h)
        ∙ alike n (λ i. eqb (get_or (take n l) i 0) 0) (λ i. eqb (get_or l i 0) 0) (λ i k. ap (λ (x : ℕ). eqb x 0) (get_or-take n l i 0 k))
