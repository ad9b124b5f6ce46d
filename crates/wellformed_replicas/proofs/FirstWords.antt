-- Words that are the first of others.
-- Assumes nothing.
use Rattle.std.proofs.Common.{◌≡◌, ℕ, ◌≤◌, true, ◌&&◌, eqb, leb, List, length, get_or, take, Option, Some, None, Bor, refl, sym, ap, ◌∙◌, arith, le-leb, leb-true, eqb-true, eq-eqb, length-take-le, get_or-take, ext_get_or}
use Rattle.std.specs.Option.{option_copied, option_eq}
use Rattle.model.specs.Tests.{all_below, same}
use Rattle.model.proofs.Tests.{both, all_below_lem, below_all}
use Rattle.model.proofs.Ranges.{same_test}
use Rattle.model.proofs.WellFormedParts.{same_lists, same_self}
use Rattle.wellformed_replicas.specs.Shapes.{are_first_of}

pub first_part : (l m : List ℕ) → are_first_of l m ≡ true → take (length l) m ≡ l
unfolding are_first_of
first_part l m e =
    let t = (both (leb (length l) (length m)) (all_below (length l) (λ i. eqb (get_or l i 0) (get_or m i 0)))).0 e in
    let n : length (take (length l) m) ≡ length l = length-take-le (length l) m (leb-true (length l) (length m) t.0) in
    ext_get_or 0 (take (length l) m) l n
    (λ i h. get_or-take (length l) m i 0 (omega (arith, n))
    ∙ sym (eqb-true (get_or l i 0) (get_or m i 0) (all_below_lem (length l) (λ i. eqb (get_or l i 0) (get_or m i 0)) t.1 i (omega (arith, n)))))

part_first : (l m : List ℕ) → length l ≤ length m → l ≡ take (length l) m → are_first_of l m ≡ true
unfolding are_first_of
part_first l m h e =
    (both (leb (length l) (length m)) (all_below (length l) (λ i. eqb (get_or l i 0) (get_or m i 0)))).1 (
      le-leb (length l) (length m) h,
      below_all (length l) (λ i. eqb (get_or l i 0) (get_or m i 0))
          (λ i k. eq-eqb (get_or l i 0) (get_or m i 0) (ap (λ (x : List ℕ). get_or x i 0) e ∙ get_or-take (length l) m i 0 k)),
    )

-- they are the same as so many of the others
pub first_same : (l m : List ℕ) → length l ≤ length m → same l (take (length l) m) ≡ are_first_of l m
first_same l m h =
    same_test (same l (take (length l) m)) (are_first_of l m) (λ e. part_first l m h (same_lists l (take (length l) m) e))
    (λ e. ap (same l) (first_part l m e) ∙ same_self l)

-- two references, or none, to the same
pub same_read : (a b : Option (Bor ℕ)) → option_copied a ≡ option_copied b → option_eq (λ x y. eqb x.now y.now) a b ≡ true
same_read None None e = refl
same_read None (Some y) e = cc
same_read (Some x) None e = cc
same_read (Some x) (Some y) e = let s : x.now ≡ y.now = cc in rw s (eq-eqb y.now y.now refl)
