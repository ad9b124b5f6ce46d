-- Stores among the words of a replica, as the replica that the state then holds.
-- Assumes nothing.
use Prim.Native.Nat.{ℕ, ◌+◌, ◌<◌}
use native.Mathlib.Nat.{add-zero}
use native.Mathlib.Omega.{arith}
use mathlib.Core.Path.{◌≡◌, refl, sym, ap, ap₂, ◌∙◌}
use mathlib.Core.List.{List, ◌++◌}
use lib.ListN.{take, drop, set, take-append-drop}
use lib.Seq.{take-set-le, drop-set-add, take-set-lt, drop-set-lt, drop-drop}
use Rattle.model.specs.Replicas.{Replica, replica_words, learned}
use Rattle.model.specs.Layout.{part, put_replica}

-- a state around the part at a place, and with other words there
around : List ℕ → ℕ → List ℕ → List ℕ
around w at l = take at w ++ (l ++ drop (at + 64) w)

-- a store among those words
put_word : (w : List ℕ) (at i v : ℕ) → i < 64 → set w (at + i) v ≡ around w at (set (part w at) i v)
unfolding part around
put_word w at i v h =
    sym (take-append-drop at (set w (at + i) v))
    ∙ ap₂ ◌++◌ (take-set-le at w (at + i) v (omega arith))
    (drop-set-add at w i v
    ∙ sym (take-append-drop 64 (set (drop at w) i v))
    ∙ ap₂ ◌++◌ (take-set-lt 64 (drop at w) i v h) (drop-set-lt 64 (drop at w) i v h ∙ drop-drop 64 at w))

-- two stores
put_words : (w : List ℕ) (at i k x y : ℕ) → i < 64 → k < 64
    → set (set w (at + i) x) (at + k) y ≡ around w at (set (set (part w at) i x) k y)
unfolding part around
put_words w at i k x y h g =
    put_word (set w (at + i) x) at k y g
    ∙ ap₂ ◌++◌ (take-set-le at w (at + i) x (omega arith))
    (ap₂ ◌++◌ (ap (λ (l : List ℕ). set l k y) (ap (take 64) (drop-set-add at w i x) ∙ take-set-lt 64 (drop at w) i x h))
    (drop-set-lt (at + 64) w (at + i) x (omega arith)))

-- the words of a replica r, and those of another one, s, that differ by the stores
module _ (w : List ℕ) (at : ℕ) (r s : Replica) (e : part w at ≡ replica_words r) where
  pub stored : (i v : ℕ) → i < 64 → set (replica_words r) i v ≡ replica_words s → set w (at + i) v ≡ put_replica w at s
  unfolding put_replica around
  stored i v h d = put_word w at i v h ∙ ap (around w at) (ap (λ (l : List ℕ). set l i v) e ∙ d)

  pub stored_both : (i k x y : ℕ) → i < 64 → k < 64 → set (set (replica_words r) i x) k y ≡ replica_words s
      → set (set w (at + i) x) (at + k) y ≡ put_replica w at s
  unfolding put_replica around
  stored_both i k x y h g d = put_words w at i k x y h g ∙ ap (around w at) (ap (λ (l : List ℕ). set (set l i x) k y) e ∙ d)

-- ---- a store of the mode, and of the stable length

-- a replica in another mode
abbrev pub in_mode : ℕ → Replica → Replica
in_mode m r = record { mode = m; history = r.history; stable = r.stable; origin = r.origin }

module _ (w : List ℕ) (at : ℕ) (r : Replica) (e : part w at ≡ replica_words r) where
  pub store_mode : (m : ℕ) → set w at m ≡ put_replica w at (in_mode m r)
  unfolding replica_words
  store_mode m =
      ap (λ (n : ℕ). set w n m) (sym (add-zero at)) ∙ stored w at r (in_mode m r) e 0 m (omega arith) refl

  pub store_stable : (n : ℕ) → set w (at + 2) n ≡ put_replica w at (learned n r)
  unfolding replica_words learned
  store_stable n = stored w at r (learned n r) e 2 n (omega arith) refl
