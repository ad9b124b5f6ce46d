-- Laws of the test of learn persistence: histories that are alike in their first n entries.
-- Assumes nothing.
use Prim.Native.Nat.{ℕ, ◌≤◌, ◌<◌}
use mathlib.Core.Path.{◌≡◌, sym, ap, ◌∙◌}
use mathlib.Core.Bool.{true}
use mathlib.Core.List.{List}
use lib.Dec.{leb, eqb}
use lib.ListN.{length, take, get_or}
use lib.Seq.{length-take-le, ext_get_or, get_or-take}
use borrow.Author.Tests.{leb-true, eqb-true}
use Rattle.types.specs.Members.{size}
use Rattle.model.specs.Layout.{place, members, replica_at}
use Rattle.model.specs.Learn.{alike, all_alike}
use Rattle.model.specs.Prefixes.{Begins}
use Rattle.model.proofs.Tests.{both, and_left, all_below_lem}

-- every replica of the configuration is alike, whatever else may be asked of it
pub every_alike : (w : List ℕ) (z j n : ℕ) (f : List ℕ) → all_alike w z j n f ≡ true
    → (k : ℕ) → k < size (members w z j) → alike n f (replica_at w (place z j k)).history ≡ true
unfolding all_alike
every_alike w z j n f e k h = search (all_below_lem _ _ e, and_left)

pub alike_long : (n : ℕ) (f g : List ℕ) → alike n f g ≡ true → n ≤ length g
unfolding alike
alike_long n f g e = leb-true n (length g) ((both (leb n (length g)) _).0 e).0

alike_at_lem : (n : ℕ) (f g : List ℕ) → alike n f g ≡ true → (i : ℕ) → i < n → get_or g i 0 ≡ get_or f i 0
unfolding alike
alike_at_lem n f g e i h =
    eqb-true (get_or g i 0) (get_or f i 0) (all_below_lem n (λ p. eqb (get_or g p 0) (get_or f p 0)) ((both (leb n (length g)) _).0 e).1 i h)

-- a history that is alike in n entries begins with those n
pub alike_begins : (n : ℕ) (f g : List ℕ) → n ≤ length f → alike n f g ≡ true → Begins (take n f) g
alike_begins n f g h e = record { starts = ap (λ (k : ℕ). take k g) (length-take-le n f h) ∙ same }
  where
    long : n ≤ length g
    long = alike_long n f g e

    same : take n g ≡ take n f
    same =
        ext_get_or 0 (take n g) (take n f) (length-take-le n g long ∙ sym (length-take-le n f h))
        (λ i l.
        let q : i < n = rw (length-take-le n g long) at l in
        get_or-take n g i 0 q ∙ alike_at_lem n f g e i q ∙ sym (get_or-take n f i 0 q))
