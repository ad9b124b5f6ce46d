-- A shard's words, written in turn: its head words, then the mode of each member's replica.
-- Assumes nothing.
use Prim.Native.Nat.{ℕ, ◌+◌, ◌*◌, ◌≤◌, ◌<◌}
use native.Mathlib.Omega.{arith}
use mathlib.Core.Path.{◌≡◌, refl, sym, ap, ◌∙◌}
use mathlib.Core.Bool.{Bool, true, false, cond}
use mathlib.Core.List.{List, ◌∷◌, ◌++◌}
use lib.Dec.{ltb}
use lib.ListN.{length, set, replicate, length-set, length-replicate, replicate-append-replicate}
use borrow.Author.Tests.{lt-ltb, le-ltb, ltb-true, ltb-false}
use Rattle.model.specs.Tests.{concat_below}
use Rattle.types.specs.Members.{size}
use Rattle.model.specs.Replicas.{replica_words, fresh, unused}
use Rattle.model.specs.Setup.{initial_head, initial_replica, initial_shard}
use Rattle.setup.proofs.InitialConcat.{concat_zeros, concat_store}

-- the words of replica n where the first k are active
pub active_words : ℕ → ℕ → List ℕ
active_words k n = replica_words (cond (ltb n k) fresh unused)

none_active : (n : ℕ) → active_words 0 n ≡ replicate 64 0
unfolding active_words replica_words fresh unused
none_active n = rw (le-ltb n 0 (omega arith)) refl

active_length : (k n : ℕ) → length (active_words k n) ≡ 64
unfolding active_words replica_words fresh unused
active_length k n = go (ltb n k)
  where
    go : (b : Bool) → length (replica_words (cond b fresh unused)) ≡ 64
    go true = refl
    go false = refl

old_words : (k : ℕ) → active_words k k ≡ 0 ∷ replicate 63 0
unfolding active_words replica_words fresh unused
old_words k = rw (le-ltb k k (omega arith)) refl

new_words : (k : ℕ) → active_words (k + 1) k ≡ 2 ∷ replicate 63 0
unfolding active_words replica_words fresh unused
new_words k = rw (lt-ltb k (k + 1) (omega arith)) refl

other_words : (k n : ℕ) → (n ≡ k → ⊥) → active_words k n ≡ active_words (k + 1) n
unfolding active_words
other_words k n d = ap (λ (b : Bool). replica_words (cond b fresh unused)) (go (ltb n k) refl)
  where
    go : (b : Bool) → ltb n k ≡ b → ltb n k ≡ ltb n (k + 1)
    go true e = e ∙ sym (lt-ltb n (k + 1) (omega (arith, ltb-true n k e)))
    go false e = e ∙ sym (le-ltb n (k + 1) (omega (arith, ltb-false n k e)))

-- ---- the shard

-- v has the head words, and k of the replicas are active
pub record Started (q m o k : ℕ) (v : List ℕ) : Type 0 where
  pub long : length v ≡ 2112
  pub words : v ≡ initial_head q m o ++ concat_below 32 (active_words k)

pub zeros-length : (v : List ℕ) (n : ℕ) → v ≡ replicate n 0 → length v ≡ n
zeros-length v n e = ap length e ∙ length-replicate n 0

head_stores : (q m o : ℕ) (l : List ℕ) → set (set (set (set (replicate 64 0 ++ l) 0 q) 1 1) 2 m) 10 o ≡ initial_head q m o ++ l
unfolding initial_head
head_stores q m o l = refl

pub head_started : (q m o : ℕ) (v : List ℕ) → v ≡ replicate 2112 0 → Started q m o 0 (set (set (set (set v 0 q) 1 1) 2 m) 10 o)
head_started q m o v e =
    record {
      long = simp length-set (zeros-length v 2112 e);
      words =
          ap (λ (l : List ℕ). set (set (set (set l 0 q) 1 1) 2 m) 10 o) (e ∙ sym (replicate-append-replicate 64 2048 0))
          ∙ head_stores q m o (replicate 2048 0)
          ∙ ap (λ (l : List ℕ). initial_head q m o ++ l) (sym (concat_zeros 32 (active_words 0) none_active));
    }

pub next_started : (q m o k : ℕ) (v : List ℕ) → k < size m → size m ≤ 4 → Started q m o k v → Started q m o (k + 1) (set v (64 + k * 64) 2)
unfolding initial_head
next_started q m o k v h l s =
    record {
      long = length-set v (64 + k * 64) 2 ∙ s.long;
      words =
          ap (λ (l : List ℕ). set l (64 + k * 64) 2) s.words
          ∙ concat_store (initial_head q m o) (active_words k) (active_words (k + 1)) (active_length k) k 0 2 (replicate 63 0) (old_words k) (new_words k)
          (other_words k) 32 (omega arith);
    }

pub all_started : (q m o k : ℕ) (v : List ℕ) → k ≡ size m → Started q m o k v → v ≡ initial_shard q m o
unfolding initial_shard initial_replica active_words
all_started q m o k v e s = s.words ∙ ap (λ (n : ℕ). initial_head q m o ++ concat_below 32 (active_words n)) e
