-- States that differ in words 3 of replicas alone: their head words are the same, and so are their replicas but for the origin; and what is written to
-- both in one place keeps that.
-- Assumes nothing.
use Prim.Native.Nat.{ℕ, ◌+◌, ◌-◌, ◌*◌, ◌%◌, ◌≤◌, ◌<◌, min}
use native.Mathlib.Omega.{arith}
use native.Mathlib.Decide.{ℕ_discrete, dec_lt}
use mathlib.Core.Path.{◌≡◌, sym, ap, ap₂, ◌∙◌}
use mathlib.Core.Bool.{true, false, and-false, false≢true}
use mathlib.Core.List.{List}
use lib.Dec.{leb}
use lib.ListN.{length, get_or, take, drop, set, length-drop, length-set}
use lib.Seq.{get_or-drop, get_or-set_same, get_or-set_other, set_out, ext_get_or}
use borrow.Author.Tests.{le-leb, lt-leb, ne_eqb}
use Rattle.model.specs.Replicas.{Replica, replica_words, read_replica}
use Rattle.model.specs.Layout.{head_place, place, head_word, sequencer, installed, members, orderer, part, replica_at, put_replica, put_head}
use Rattle.model.specs.Unchanged.{is_origin_place, OriginsAlone}
use Rattle.model.proofs.Parts.{below, above, part_word, part_short, put_length, part_put, word_put_other}
use Rattle.model.proofs.Places.{place_fits}

-- ---- places

-- a head word is no origin
head_place_lem : (z i : ℕ) → i < 64 → is_origin_place (head_place z i) ≡ false
unfolding is_origin_place head_place
head_place_lem z i h =
    let e : (z * 2112 + i) % 2112 ≡ i = omega arith in
    rw (e, lt-leb 64 i h)

-- nor is a word of a replica but its word 3
word_place : (at i : ℕ) → at % 64 ≡ 0 → i < 64 → (i ≡ 3 → ⊥) → is_origin_place (at + i) ≡ false
unfolding is_origin_place
word_place at i e h ne =
    let d : (at + i) % 64 ≡ i = omega arith in
    rw (d, ne_eqb i 3 ne) (and-false (leb 64 ((at + i) % 2112)))

origin_place : (z : ℕ) {j k : ℕ} → j < 8 → k < 4 → is_origin_place (place z j k + 3) ≡ true
unfolding is_origin_place place
origin_place z {j} {k} hj hk =
    let at : ℕ = z * 2112 + 64 + j * 256 + k * 64 + 3 in
    let e : at % 64 ≡ 3 = omega arith in
    let d : at % 2112 ≡ 64 + j * 256 + k * 64 + 3 = omega arith in
    rw (e, le-leb 64 (at % 2112) (omega (arith, d)))

-- replicas begin 64 words apart
pub place_aligned : (z j k : ℕ) → place z j k % 64 ≡ 0
unfolding place
place_aligned z j k = omega arith

-- ---- what is read

-- two replicas that differ in the origin alone
pub record OriginAlone (r s : Replica) : Type 0 where
  pub mode : r.mode ≡ s.mode
  pub history : r.history ≡ s.history
  pub stable : r.stable ≡ s.stable

module _ {v w : List ℕ} (a : OriginsAlone v w) where
  head_word_same : (z : ℕ) {i : ℕ} → i < 64 → head_word v z i ≡ head_word w z i
  unfolding head_word
  head_word_same z {i} h = a.words (head_place z i) (head_place_lem z i h)

  pub sequencer-same : (z : ℕ) → sequencer v z ≡ sequencer w z
  unfolding sequencer
  sequencer-same z = head_word_same z (omega arith)

  pub installed-same : (z : ℕ) → installed v z ≡ installed w z
  unfolding installed
  installed-same z = head_word_same z (omega arith)

  pub members-same : (z : ℕ) {j : ℕ} → j < 8 → members v z j ≡ members w z j
  unfolding members
  members-same z h = head_word_same z (omega arith)

  pub orderer-same : (z : ℕ) {j : ℕ} → j < 8 → orderer v z j ≡ orderer w z j
  unfolding orderer
  orderer-same z h = head_word_same z (omega arith)

  -- the words of the part at a place
  module _ (at : ℕ) (aligned : at % 64 ≡ 0) where
    word_same : (i : ℕ) → i < 64 → (i ≡ 3 → ⊥) → get_or (part v at) i 0 ≡ get_or (part w at) i 0
    word_same i h ne = part_word v at i h ∙ a.words (at + i) (word_place at i aligned h ne) ∙ sym (part_word w at i h)

    part_long : length (part v at) ≡ length (part w at)
    part_long = part_short v at ∙ ap (λ (n : ℕ). min 64 (n - at)) a.long ∙ sym (part_short w at)

    entries_same : drop 8 (part v at) ≡ drop 8 (part w at)
    entries_same =
        ext_get_or 0 (drop 8 (part v at)) (drop 8 (part w at)) (simp length-drop (ap (λ (n : ℕ). n - 8) part_long))
        (λ i h.
        let small : 8 + i < 64 = omega (arith, simp length-drop at h, part_short v at) in
        get_or-drop 8 (part v at) i 0 ∙ word_same (8 + i) small (omega arith) ∙ sym (get_or-drop 8 (part w at) i 0))

    pub replica_same : OriginAlone (replica_at v at) (replica_at w at)
    unfolding replica_at read_replica
    replica_same =
        record {
          mode = word_same 0 (omega arith) (omega arith);
          history = ap₂ take (word_same 1 (omega arith) (omega arith)) entries_same;
          stable = word_same 2 (omega arith) (omega arith);
        }

-- ---- what is written

with_origin : ℕ → Replica → Replica
with_origin o r = record { mode = r.mode; history = r.history; stable = r.stable; origin = o }

-- a word of a replica other than its word 3 is the same with another origin
word_with : (r : Replica) (o i : ℕ) → (i ≡ 3 → ⊥) → get_or (replica_words r) i 0 ≡ get_or (replica_words (with_origin o r)) i 0
unfolding replica_words with_origin
word_with r o i ne = sym (get_or-set_other (replica_words r) 3 i o 0 ne)

words_alone : {r s : Replica} → OriginAlone r s → (i : ℕ) → (i ≡ 3 → ⊥) → get_or (replica_words r) i 0 ≡ get_or (replica_words s) i 0
unfolding with_origin
words_alone {r} {s} e i ne = word_with r s.origin i ne ∙ ap (λ (x : Replica). get_or (replica_words x) i 0) same
  where
    same : with_origin s.origin r ≡ s
    same = λ i. record { mode = e.mode i; history = e.history i; stable = e.stable i; origin = s.origin }

module _ {v w : List ℕ} (a : OriginsAlone v w) where
  -- two replicas that differ in the origin alone, put in one place
  module _ {Z : ℕ} (l : length v ≡ Z * 2112) {z j k : ℕ} (hz : z < Z) (hj : j < 8) (hk : k < 4) {r s : Replica}
      (few : length r.history ≤ 56) (e : OriginAlone r s) where
    at : ℕ
    at = place z j k

    fits : at + 64 ≤ length v
    unfolding at
    fits = place_fits v l hz hj hk

    fits_too : at + 64 ≤ length w
    unfolding at
    fits_too = place_fits w (sym a.long ∙ l) hz hj hk

    few_too : length s.history ≤ 56
    few_too = rw e.history at few

    not_word_three : (i : ℕ) → is_origin_place i ≡ false → at + 3 ≡ i → ⊥
    unfolding at
    not_word_three i o q = false≢true (sym o ∙ ap is_origin_place (sym q) ∙ origin_place z hj hk)

    put_word : (i : ℕ) → is_origin_place i ≡ false → get_or (put_replica v at r) i 0 ≡ get_or (put_replica w at s) i 0
    put_word i o = go (dec_lt i at) (dec_lt i (at + 64))
      where
        inside : (c : ℕ) → c < 64 → (c ≡ 3 → ⊥) → get_or (put_replica v at r) (at + c) 0 ≡ get_or (put_replica w at s) (at + c) 0
        inside c h ne =
            sym (part_word (put_replica v at r) at c h) ∙ ap (λ (p : List ℕ). get_or p c 0) (part_put v at r fits few) ∙ words_alone e c ne
            ∙ ap (λ (p : List ℕ). get_or p c 0) (sym (part_put w at s fits_too few_too)) ∙ part_word (put_replica w at s) at c h

        go : Dec (i < at) → Dec (i < at + 64) → get_or (put_replica v at r) i 0 ≡ get_or (put_replica w at s) i 0
        go (yes h) d =
            word_put_other v at r fits few (below h) ∙ a.words i o ∙ sym (word_put_other w at s fits_too few_too (below h))
        go (no h) (no n) =
            let far : at + 64 ≤ i = omega arith in
            word_put_other v at r fits few (above far) ∙ a.words i o ∙ sym (word_put_other w at s fits_too few_too (above far))
        go (no h) (yes n) =
            let back : at + (i - at) ≡ i = omega arith in
            rw back at (inside (i - at) (omega arith) (λ q. not_word_three i o (omega arith)))

    pub put_alone : OriginsAlone (put_replica v (place z j k) r) (put_replica w (place z j k) s)
    unfolding at
    put_alone =
        record {
          long = put_length v at r fits few ∙ a.long ∙ sym (put_length w at s fits_too few_too);
          words = put_word;
        }

  -- the same head word; past the end nothing is written
  pub head_alone : (z i x : ℕ) → OriginsAlone (put_head v z i x) (put_head w z i x)
  unfolding put_head
  head_alone z i x =
      record {
        long = length-set v (head_place z i) x ∙ a.long ∙ sym (length-set w (head_place z i) x);
        words = λ c o. go c o (ℕ_discrete c (head_place z i)) (dec_lt (head_place z i) (length v));
      }
    where
      go : (c : ℕ) → is_origin_place c ≡ false → Dec (c ≡ head_place z i) → Dec (head_place z i < length v)
          → get_or (set v (head_place z i) x) c 0 ≡ get_or (set w (head_place z i) x) c 0
      go c o (yes e) (yes h) = rw e (get_or-set_same v (head_place z i) x 0 h ∙ sym (get_or-set_same w (head_place z i) x 0 (rw a.long at h)))
      go c o (yes e) (no n) =
          rw (set_out v (head_place z i) x (omega arith), set_out w (head_place z i) x (omega (arith, a.long))) (a.words c o)
      go c o (no n) d = get_or-set_other v (head_place z i) c x 0 n ∙ a.words c o ∙ sym (get_or-set_other w (head_place z i) c x 0 n)
