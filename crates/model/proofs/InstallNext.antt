-- The state that an install leaves, word by word: the head words of the next configuration, its pending replicas, and the rest as it was.
use Prim.Native.Nat.{ℕ, ◌+◌, ◌*◌, ◌≤◌, ◌<◌}
use native.Mathlib.Omega.{arith}
use mathlib.Core.Path.{◌≡◌, ◌∙◌}
use mathlib.Core.List.{List}
use lib.ListN.{length, length-set}
use Rattle.types.specs.Members.{size}
use Rattle.model.specs.Replicas.{replica_words, pending}
use Rattle.model.specs.Layout.{place, head_place, head_word, installed, part, put_head}
use Rattle.model.specs.Install.{install_next}
use Rattle.model.proofs.Parts.{replica_set_other}
use Rattle.model.proofs.Places.{head_outside, head_set, head_set_other}
use Rattle.model.proofs.Pending.{pending-length, pending_head, pending_other, pending_here}

head_length : (w : List ℕ) (z i x : ℕ) → length (put_head w z i x) ≡ length w
unfolding put_head
head_length w z i x = length-set w (head_place z i) x

head_part : (w : List ℕ) (z z' i x : ℕ) {j k : ℕ} → i < 64 → j < 8 → k < 4 → part (put_head w z i x) (place z' j k) ≡ part w (place z' j k)
unfolding put_head
head_part w z z' i x {j} {k} hi hj hk = replica_set_other w (place z' j k) (head_place z i) x (head_outside z' z hj hk hi)

-- ---- the three head words of configuration n, written in turn

with_members : List ℕ → ℕ → ℕ → ℕ → List ℕ
with_members w z n m = put_head w z (2 + n) m

with_orderer : List ℕ → ℕ → ℕ → ℕ → ℕ → List ℕ
with_orderer w z n m o = put_head (with_members w z n m) z (10 + n) o

with_head : List ℕ → ℕ → ℕ → ℕ → ℕ → List ℕ
with_head w z n m o = put_head (with_orderer w z n m o) z 1 (n + 1)

module _ (w : List ℕ) {z n Z : ℕ} (l : length w ≡ Z * 2112) (hz : z < Z) (hn : n < 8) (m o : ℕ) where
  members-length : length (with_members w z n m) ≡ Z * 2112
  unfolding with_members
  members-length = head_length w z (2 + n) m ∙ l

  orderer-length : length (with_orderer w z n m o) ≡ Z * 2112
  unfolding with_orderer
  orderer-length = head_length (with_members w z n m) z (10 + n) o ∙ members-length

  head_written_length : length (with_head w z n m o) ≡ Z * 2112
  unfolding with_head
  head_written_length = head_length (with_orderer w z n m o) z 1 (n + 1) ∙ orderer-length

  head_other : (z' i : ℕ) → i < 64 → (z ≡ z' → (1 ≡ i → ⊥) × (2 + n ≡ i → ⊥) × (10 + n ≡ i → ⊥))
      → head_word (with_head w z n m o) z' i ≡ head_word w z' i
  unfolding with_head with_orderer with_members
  head_other z' i hi ne =
      head_set_other (with_orderer w z n m o) z z' (n + 1) (omega arith) hi (λ e. (ne e).0)
      ∙ head_set_other (with_members w z n m) z z' o (omega arith) hi (λ e. (ne e).2)
      ∙ head_set_other w z z' m (omega arith) hi (λ e. (ne e).1)

  head_installed : head_word (with_head w z n m o) z 1 ≡ n + 1
  unfolding with_head
  head_installed = head_set (with_orderer w z n m o) (n + 1) orderer-length hz (omega arith)

  head_orderer : head_word (with_head w z n m o) z (10 + n) ≡ o
  unfolding with_head with_orderer
  head_orderer =
      head_set_other (with_orderer w z n m o) z z (n + 1) (omega arith) (omega arith) (λ a e. omega arith)
      ∙ head_set (with_members w z n m) o members-length hz (omega arith)

  head_members : head_word (with_head w z n m o) z (2 + n) ≡ m
  unfolding with_head with_orderer with_members
  head_members =
      head_set_other (with_orderer w z n m o) z z (n + 1) (omega arith) (omega arith) (λ a e. omega arith)
      ∙ head_set_other (with_members w z n m) z z o (omega arith) (omega arith) (λ a e. omega arith)
      ∙ head_set w m l hz (omega arith)

  head_parts : (z' : ℕ) {j k : ℕ} → j < 8 → k < 4 → part (with_head w z n m o) (place z' j k) ≡ part w (place z' j k)
  unfolding with_head with_orderer with_members
  head_parts z' hj hk =
      head_part (with_orderer w z n m o) z z' 1 (n + 1) (omega arith) hj hk
      ∙ head_part (with_members w z n m) z z' (10 + n) o (omega arith) hj hk
      ∙ head_part w z z' (2 + n) m (omega arith) hj hk

-- ---- the whole install, for the next configuration of shard z

module _ (w : List ℕ) {z Z : ℕ} (l : length w ≡ Z * 2112) (hz : z < Z) (hn : installed w z < 8) (m o : ℕ) (hm : size m ≤ 4) where
  headed : List ℕ
  headed = with_head w z (installed w z) m o

  headed_length : length headed ≡ Z * 2112
  unfolding headed
  headed_length = head_written_length w l hz hn m o

  next_head : (z' i : ℕ) → i < 64 → head_word (install_next w z m o) z' i ≡ head_word headed z' i
  unfolding install_next headed with_head with_orderer with_members
  next_head z' i hi = pending_head headed headed_length hz hn (size m) hm z' hi

  pub next_length : length (install_next w z m o) ≡ Z * 2112
  unfolding install_next headed with_head with_orderer with_members
  next_length = pending-length headed headed_length hz hn (size m) hm

  pub next_other : (z' i : ℕ) → i < 64 → (z ≡ z' → (1 ≡ i → ⊥) × (2 + installed w z ≡ i → ⊥) × (10 + installed w z ≡ i → ⊥))
      → head_word (install_next w z m o) z' i ≡ head_word w z' i
  unfolding headed
  next_other z' i hi ne = next_head z' i hi ∙ head_other w l hz hn m o z' i hi ne

  pub next_installed : head_word (install_next w z m o) z 1 ≡ installed w z + 1
  unfolding headed
  next_installed = next_head z 1 (omega arith) ∙ head_installed w l hz hn m o

  pub next_members : head_word (install_next w z m o) z (2 + installed w z) ≡ m
  unfolding headed
  next_members = next_head z (2 + installed w z) (omega arith) ∙ head_members w l hz hn m o

  pub next_orderer : head_word (install_next w z m o) z (10 + installed w z) ≡ o
  unfolding headed
  next_orderer = next_head z (10 + installed w z) (omega arith) ∙ head_orderer w l hz hn m o

  pub next_pending : (k : ℕ) → k < size m → part (install_next w z m o) (place z (installed w z) k) ≡ replica_words pending
  unfolding install_next headed with_head with_orderer with_members
  next_pending k hk = pending_here headed headed_length hz hn (size m) hm k hk

  pub next_parts : (z' j k : ℕ) → j < 8 → k < 4 → (z ≡ z' → installed w z ≡ j → k < size m → ⊥)
      → part (install_next w z m o) (place z' j k) ≡ part w (place z' j k)
  unfolding install_next headed with_head with_orderer with_members
  next_parts z' j k hj hk ne =
      pending_other headed headed_length hz hn (size m) hm z' j k hj hk ne ∙ head_parts w l hz hn m o z' hj hk
