-- The history of a replica as words of the state.
-- Assumes nothing.
use Prim.Native.Nat.{ℕ, zero, suc, ◌+◌, ◌-◌, ◌≤◌, ◌<◌}
use native.Mathlib.Nat.{zero-add, suc-add}
use native.Mathlib.Omega.{arith}
use mathlib.Core.Path.{◌≡◌, refl, sym, ap, ◌∙◌}
use mathlib.Core.List.{List, [], ◌∷◌, ◌++◌}
use lib.ListN.{length, get_or, take, drop, replicate}
use lib.Seq.{take-nil, take-take, drop-drop, get_or-append-add}
use Rattle.model.specs.Replicas.{read_replica, replica_words}
use Rattle.model.specs.Layout.{part, replica_at}
use Rattle.model.proofs.Parts.{part_word, short}

-- the end of a list's first part is the first part of its end
drop-take : (n m : ℕ) (l : List ℕ) → drop n (take (n + m) l) ≡ take m (drop n l)
drop-take zero m l = ap (λ (k : ℕ). take k l) (zero-add m)
drop-take (suc n) m [] = ap (drop (suc n)) (take-nil (suc n + m)) ∙ sym (take-nil m)
drop-take (suc n) m (x ∷ l) = rw (suc-add n m) (drop-take n m l)

-- a history with zeros behind it
zeros : (m p : ℕ) → ◌≡◌ {A = ℕ} (get_or (replicate m 0) p 0) 0
zeros zero p = refl
zeros (suc m) zero = refl
zeros (suc m) (suc p) = zeros m p

padded : (h : List ℕ) (m p : ℕ) → get_or (h ++ replicate m 0) p 0 ≡ get_or h p 0
padded [] m p = zeros m p
padded (x ∷ h) m zero = refl
padded (x ∷ h) m (suc p) = padded h m p

module _ (w : List ℕ) (at : ℕ) (e : part w at ≡ replica_words (replica_at w at)) where
  word : (i : ℕ) → i < 64 → get_or w (at + i) 0 ≡ get_or (replica_words (replica_at w at)) i 0
  word i h = sym (part_word w at i h) ∙ ap (λ (l : List ℕ). get_or l i 0) e

  -- the second word is the history's length
  pub length_word : length (replica_at w at).history ≡ get_or w (at + 1) 0
  unfolding replica_words
  length_word = sym (word 1 (omega arith))

  pub length_few : get_or w (at + 1) 0 ≤ 56
  length_few = omega (arith, length_word, short w at)

  -- the history are so many words from the ninth on
  pub history_words : (replica_at w at).history ≡ take (get_or w (at + 1) 0) (drop (at + 8) w)
  unfolding replica_at read_replica part
  history_words =
      ap (λ (n : ℕ). take n (drop 8 (part w at))) (part_word w at 1 (omega arith))
      ∙ ap (λ (l : List ℕ). take (get_or w (at + 1) 0) l) (drop-take 8 56 (drop at w))
      ∙ take-take (get_or w (at + 1) 0) 56 (drop 8 (drop at w)) length_few
      ∙ ap (λ (l : List ℕ). take (get_or w (at + 1) 0) l) (drop-drop 8 at w)

  -- one of its entries, or 0 past its end
  pub entry_word_lem : (p : ℕ) → p < 56 → get_or w (at + 8 + p) 0 ≡ get_or (replica_at w at).history p 0
  unfolding replica_words
  entry_word_lem p h =
      let r = replica_at w at in
      let here : at + 8 + p ≡ at + (8 + p) = omega arith in
      ap (λ (i : ℕ). get_or w i 0) here ∙ word (8 + p) (omega arith)
      ∙ get_or-append-add (r.mode ∷ length r.history ∷ r.stable ∷ r.origin ∷ 0 ∷ 0 ∷ 0 ∷ 0 ∷ [])
      (r.history ++ replicate (56 - length r.history) 0) p 0
      ∙ padded r.history (56 - length r.history) p
