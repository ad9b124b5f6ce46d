-- The number of shards of a length: none, or those that the length has; and that it is the quotient.
use Prim.Native.Nat.{ℕ, ◌*◌, ◌/◌, ◌≤◌}
use native.Mathlib.Omega.{arith}
use mathlib.Core.Path.{◌≡◌, refl, ap, sym, ◌∙◌}
use mathlib.Core.Bool.{Bool, true, false, cond, ◌&&◌, false≢true}
use mathlib.Core.List.{List, [], ◌∷◌}
use lib.Dec.{leb, eqb}
use lib.ListN.{length}
use borrow.Author.Tests.{eqb-true, eq-eqb, leb-true, le-leb}
use Rattle.model.specs.Tests.{all_below}
use Rattle.model.specs.Layout.{shard_words, shards_of}
use Rattle.model.specs.Lengths.{quotient_of, ComparedShards}
use Rattle.model.proofs.Tests.{all_below_lem, all_pass}

-- the number Z of a length n
data Counted (n Z : ℕ) : Type 0 where
  none : Z ≡ 0 → Counted n Z
  some : n ≡ Z * shard_words → 2 ≤ Z → Z ≤ 8 → Counted n Z

-- a length is compared with that of Z shards, and else with others
compared : {n r : ℕ} (Z : ℕ) → 2 ≤ Z → Z ≤ 8 → Counted n r → Counted n (cond (eqb n (Z * shard_words)) Z r)
compared {n} {r} Z l m c = go (eqb n (Z * shard_words)) refl
  where
    go : (b : Bool) → eqb n (Z * shard_words) ≡ b → Counted n (cond b Z r)
    go true e = some (eqb-true n (Z * shard_words) e) l m
    go false e = c

counted : (n : ℕ) → Counted n (shards_of n)
unfolding shards_of
counted n =
    compared 2 (omega arith) (omega arith)
    (compared 3 (omega arith) (omega arith)
    (compared 4 (omega arith) (omega arith)
    (compared 5 (omega arith) (omega arith)
    (compared 6 (omega arith) (omega arith)
    (compared 7 (omega arith) (omega arith)
    (compared 8 (omega arith) (omega arith) (none refl)))))))

-- ---- what this says

several_of : {n Z : ℕ} → Counted n Z → (Z ≡ 0 → ⊥) → 2 ≤ Z
several_of (none e) n = absurd (n e)
several_of (some e l m) n = l

most_of : {n Z : ℕ} → Counted n Z → Z ≤ 8
most_of (none e) = omega arith
most_of (some e l m) = m

fit_of : {n Z : ℕ} → Counted n Z → Z * shard_words ≤ n
fit_of (none e) = omega arith
fit_of (some e l m) = omega arith

length_of : {n Z : ℕ} → Counted n Z → 2 ≤ Z → n ≡ Z * shard_words
length_of (none e) h = absurd (omega arith)
length_of (some e l m) h = e

-- a length has no shards, or is that of a state
pub several : (n : ℕ) → (shards_of n ≡ 0 → ⊥) → 2 ≤ shards_of n
several n = several_of (counted n)

pub shards_most : (n : ℕ) → shards_of n ≤ 8
shards_most n = most_of (counted n)

pub shards_fit : (n : ℕ) → shards_of n * shard_words ≤ n
shards_fit n = fit_of (counted n)

pub shards_long : (n : ℕ) → 2 ≤ shards_of n → n ≡ shards_of n * shard_words
shards_long n = length_of (counted n)

pub length_of_shards : (w : List ℕ) (Z : ℕ) → shards_of (length w) ≡ Z → 2 ≤ Z → (length w ≡ Z * shard_words) × (Z ≤ 8)
length_of_shards w Z e h =
    let l = length_of (counted (length w)) (omega arith) in
    (l ∙ ap (λ (n : ℕ). n * shard_words) e, omega (arith, shards_most (length w)))

-- ---- the quotient

-- each of the seven lengths has its shards
pub each_length : (Z : ℕ) → 2 ≤ Z → Z ≤ 8 → shards_of (Z * shard_words) ≡ Z
unfolding shards_of all_below
each_length Z l m =
    eqb-true (shards_of (Z * shard_words)) Z
    (rw (le-leb 2 Z l) at (all_below_lem 9 (λ Y. cond (leb 2 Y) (eqb (shards_of (Y * shard_words)) Y) true) refl Z (omega arith)))

quotient_law : (n : ℕ) → shards_of n ≡ quotient_of n
unfolding quotient_of
quotient_law n = go fits refl
  where
    q : ℕ
    q = n / shard_words

    fits : Bool
    fits = eqb (q * shard_words) n && leb 2 q && leb q 8

    -- a length that has shards passes the three tests
    no_shards : {Z : ℕ} → Counted n Z → fits ≡ false → Z ≡ 0
    no_shards (none e) d = e
    no_shards {Z} (some e l m) d =
        let h : q ≡ Z = omega arith in
        absurd (false≢true (sym d ∙ rw (h, eq-eqb (Z * shard_words) n (sym e), le-leb 2 Z l, le-leb Z 8 m)))

    go : (b : Bool) → fits ≡ b → shards_of n ≡ cond b q 0
    go true e =
        let p = all_pass (eqb (q * shard_words) n) (leb 2 q ∷ leb q 8 ∷ []) e in
        ap shards_of (sym (eqb-true (q * shard_words) n p.0)) ∙ each_length q (leb-true 2 q p.1.0) (leb-true q 8 p.1.1.0)
    go false e = no_shards (counted n) e

pub compared_shards : ComparedShards
compared_shards = record { quotient = quotient_law }
