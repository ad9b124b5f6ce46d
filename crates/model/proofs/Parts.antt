-- Laws of a state's parts: reading what was written, and what a write leaves alone.
use Prim.Native.Nat.{ℕ, ◌+◌, ◌-◌, ◌≤◌, ◌<◌, min}
use native.Mathlib.Omega.{arith}
use mathlib.Core.Path.{◌≡◌, sym, ap, ◌∙◌}
use mathlib.Core.List.{List, ◌++◌}
use lib.ListN.{length, get_or, take, drop, set, replicate, length-append, length-take, length-drop, length-set, length-replicate, get_or-append}
use lib.Seq.{take-append_seam, take_at, drop_at, length-take-le, get_or-append-add, get_or-take, get_or-drop, get_or-set_other, ext_get_or}
use Rattle.model.specs.Replicas.{Replica, replica_words, read_replica}
use Rattle.model.specs.Layout.{part, replica_at, put_replica}

-- two parts of 64 words with no word in common
pub data Apart (a b : ℕ) : Type 0 where
  before : b + 64 ≤ a → Apart a b
  behind : a + 64 ≤ b → Apart a b

-- a word outside the part at a
pub data Outside (a i : ℕ) : Type 0 where
  below : i < a → Outside a i
  above : a + 64 ≤ i → Outside a i

-- ---- a replica and its words

pub words_length : (r : Replica) → length r.history ≤ 56 → length (replica_words r) ≡ 64
unfolding replica_words
words_length r h = simp (length-append, length-replicate) (omega arith)

pub read_words : (r : Replica) → length r.history ≤ 56 → read_replica (replica_words r) ≡ r
unfolding replica_words read_replica
read_words r h =
    λ i. record {
      mode = r.mode;
      history = take-append_seam r.history (replicate (56 - length r.history) 0) i;
      stable = r.stable;
      origin = r.origin;
    }

-- a part has at most 64 words, so what it holds is short
pub short : (w : List ℕ) (at : ℕ) → length (replica_at w at).history ≤ 56
unfolding replica_at read_replica part
short w at = simp (length-take, length-drop) (omega arith)

-- ---- lists that agree on a part

-- the words of a part, one by one
pub part_word : (w : List ℕ) (at i : ℕ) → i < 64 → get_or (part w at) i 0 ≡ get_or w (at + i) 0
unfolding part
part_word w at i h = get_or-take 64 (drop at w) i 0 h ∙ get_or-drop at w i 0

pub part_short : (w : List ℕ) (at : ℕ) → length (part w at) ≡ min 64 (length w - at)
unfolding part
part_short w at = simp (length-take, length-drop)

pub part_same : (u v : List ℕ) (at : ℕ) → length u ≡ length v → ((i : ℕ) → i < 64 → get_or u (at + i) 0 ≡ get_or v (at + i) 0)
    → part u at ≡ part v at
part_same u v at e f =
    ext_get_or 0 (part u at) (part v at) (part_short u at ∙ ap (λ (n : ℕ). min 64 (n - at)) e ∙ sym (part_short v at))
    (λ i h. let b : i < 64 = omega (arith, part_short u at) in part_word u at i b ∙ f i b ∙ sym (part_word v at i b))

-- ---- a write of a replica

module _ (w : List ℕ) (at : ℕ) (r : Replica) (fits : at + 64 ≤ length w) (few : length r.history ≤ 56) where
  before_length : length (take at w) ≡ at
  before_length = length-take-le at w (omega arith)

  pub put_length : length (put_replica w at r) ≡ length w
  unfolding put_replica
  put_length = simp (length-append, before_length, words_length r few, length-drop) (omega arith)

  pub part_put : part (put_replica w at r) at ≡ replica_words r
  unfolding part put_replica
  part_put =
      rw (drop_at (take at w) (replica_words r ++ drop (at + 64) w) at before_length)
      (take_at (replica_words r) (drop (at + 64) w) 64 (words_length r few))

  pub replica_put : replica_at (put_replica w at r) at ≡ r
  unfolding replica_at
  replica_put = ap read_replica part_put ∙ read_words r few

  pub word_put_other : {i : ℕ} → Outside at i → get_or (put_replica w at r) i 0 ≡ get_or w i 0
  unfolding put_replica
  word_put_other {i} (below l) =
      get_or-append (take at w) (replica_words r ++ drop (at + 64) w) 0 i (omega (arith, before_length))
      ∙ get_or-take at w i 0 l
  word_put_other {i} (above l) =
      ap (λ (k : ℕ). get_or (put_replica w at r) k 0) from_seams
      ∙ get_or-append-add (take at w) (replica_words r ++ drop (at + 64) w) (length (replica_words r) + rest) 0
      ∙ get_or-append-add (replica_words r) (drop (at + 64) w) rest 0 ∙ get_or-drop (at + 64) w rest 0
      ∙ ap (λ (k : ℕ). get_or w k 0) (omega arith)
    where
      rest : ℕ
      rest = i - (at + 64)

      from_seams : i ≡ length (take at w) + (length (replica_words r) + rest)
      from_seams = omega (arith, before_length, words_length r few)

  pub part_put_other : {b : ℕ} → Apart at b → part (put_replica w at r) b ≡ part w b
  part_put_other {b} (before l) = part_same (put_replica w at r) w b put_length (λ i h. word_put_other (below (omega arith)))
  part_put_other {b} (behind l) = part_same (put_replica w at r) w b put_length (λ i h. word_put_other (above (omega arith)))

  pub replica_put_other : {b : ℕ} → Apart at b → replica_at (put_replica w at r) b ≡ replica_at w b
  unfolding replica_at
  replica_put_other a = ap read_replica (part_put_other a)

-- ---- a write of a head word

pub replica_set_other : (w : List ℕ) (at i x : ℕ) → Outside at i → part (set w i x) at ≡ part w at
replica_set_other w at i x (below l) =
    part_same (set w i x) w at (length-set w i x) (λ k h. get_or-set_other w i (at + k) x 0 (omega arith))
replica_set_other w at i x (above l) =
    part_same (set w i x) w at (length-set w i x) (λ k h. get_or-set_other w i (at + k) x 0 (omega arith))
