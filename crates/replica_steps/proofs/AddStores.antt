-- The stores of an add: an entry after a history, then the history's length, are the replica with the entry last.
-- Assumes nothing.
use Prim.Native.Nat.{ℕ, suc, ◌+◌, ◌-◌, ◌<◌}
use native.Mathlib.Omega.{arith}
use mathlib.Core.Path.{◌≡◌, refl, sym, ap, ap₂, ◌∙◌}
use mathlib.Core.List.{List, [], ◌∷◌, ◌++◌, append_assoc}
use lib.ListN.{length, set, replicate, length-append}
use lib.Seq.{set_at}
use Rattle.model.specs.Replicas.{Replica, replica_words, added}
use Rattle.model.specs.Layout.{part, put_replica}
use Rattle.lookup.proofs.Stores.{stored_both}

-- an entry behind a history, with eight words before
entry_stored : (xs h : List ℕ) (e n : ℕ) → length xs ≡ 8 → length h ≡ n → n < 56
    → set (xs ++ (h ++ replicate (56 - length h) 0)) (8 + n) e ≡ xs ++ ((h ++ (e ∷ [])) ++ replicate (56 - length (h ++ (e ∷ []))) 0)
entry_stored xs h e n a b l =
    ap (λ (k : ℕ). set (xs ++ (h ++ replicate k 0)) (8 + n) e) more
    ∙ ap (λ (k : List ℕ). set k (8 + n) e) (sym (append_assoc xs h (0 ∷ rest)))
    ∙ set_at (xs ++ h) 0 rest e (8 + n) (length-append xs h ∙ ap₂ ◌+◌ a b)
    ∙ append_assoc xs h (e ∷ rest)
    ∙ ap (λ (k : List ℕ). xs ++ k) (sym (append_assoc h (e ∷ []) rest))
    ∙ ap (λ (k : ℕ). xs ++ ((h ++ (e ∷ [])) ++ replicate k 0)) fewer
  where
    rest : List ℕ
    rest = replicate (55 - n) 0

    more : 56 - length h ≡ suc (55 - n)
    more = omega arith

    fewer : 55 - n ≡ 56 - length (h ++ (e ∷ []))
    fewer = simp length-append (omega arith)

-- .. and the length of the longer history
words_added : (r : Replica) (e n : ℕ) → length r.history ≡ n → n < 56
    → set (set (replica_words r) (8 + n) e) 1 (n + 1) ≡ replica_words (added e r)
unfolding replica_words added
words_added r e n q h =
    let more : n + 1 ≡ length (r.history ++ (e ∷ [])) = simp length-append (omega arith) in
    ap (λ (l : List ℕ). set l 1 (n + 1))
    (entry_stored (r.mode ∷ length r.history ∷ r.stable ∷ r.origin ∷ 0 ∷ 0 ∷ 0 ∷ 0 ∷ []) r.history e n refl q h)
    ∙ ap (λ (l : ℕ). set (replica_words (added e r)) 1 l) more

pub store_added : (w : List ℕ) (at e n : ℕ) (r : Replica) → part w at ≡ replica_words r → length r.history ≡ n → n < 56
    → set (set w (at + 8 + n) e) (at + 1) (n + 1) ≡ put_replica w at (added e r)
store_added w at e n r p q h =
    ap (λ (i : ℕ). set (set w i e) (at + 1) (n + 1)) (omega arith)
    ∙ stored_both w at r (added e r) p (8 + n) 1 e (n + 1) (omega arith) (omega arith) (words_added r e n q h)
