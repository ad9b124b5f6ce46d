-- Laws of the places of a state: its parts and head words lie in it, apart from each other.
use Prim.Native.Nat.{ℕ, ◌+◌, ◌*◌, ◌/◌, ◌%◌, ◌≤◌, ◌<◌}
use native.Mathlib.Omega.{arith}
use native.Mathlib.Decide.{dec_le}
use mathlib.Core.Path.{◌≡◌, sym}
use mathlib.Core.List.{List}
use lib.ListN.{length}
use lib.Seq.{get_or-set_same, get_or-set_other}
use Rattle.types.specs.Members.{replica_number}
use Rattle.model.specs.Replicas.{Replica}
use Rattle.model.specs.Layout.{head_place, place, head_word, sequencer, installed, members, orderer, put_replica, put_head}
use Rattle.model.specs.Configuration.{configuration}
use Rattle.types.specs.ReplicaPlace.{replica_place}
use Rattle.model.proofs.Parts.{Apart, before, behind, Outside, below, above, word_put_other}

-- ---- places

pub place_fits : (w : List ℕ) {z j k Z : ℕ} → length w ≡ Z * 2112 → z < Z → j < 8 → k < 4 → place z j k + 64 ≤ length w
unfolding place
place_fits w l hz hj hk = omega arith

pub head_fits : (w : List ℕ) {z i Z : ℕ} → length w ≡ Z * 2112 → z < Z → i < 64 → head_place z i < length w
unfolding head_place
head_fits w l hz hi = omega arith

-- the replicas of all configurations stand one after the other, four each
pub place_through : (z n : ℕ) → place z 0 n ≡ place z (n / 4) (n % 4)
unfolding place
place_through z n = omega arith

-- two parts of which neither ends before the other begins are one
place_same : (z z' : ℕ) {j k j' k' : ℕ} → j < 8 → k < 4 → j' < 8 → k' < 4 → place z j k < place z' j' k' + 64 → place z' j' k' < place z j k + 64
    → (z ≡ z') × (j ≡ j') × (k ≡ k')
unfolding place
place_same z z' {j} {k} {j'} {k'} hj hk hj' hk' a b =
    let s : z ≡ z' = omega arith in
    let c : j ≡ j' = omega arith in
    (s, c, omega arith)

pub place_apart : (z z' : ℕ) {j k j' k' : ℕ} → j < 8 → k < 4 → j' < 8 → k' < 4 → (z ≡ z' → j ≡ j' → k ≡ k' → ⊥)
    → Apart (place z j k) (place z' j' k')
place_apart z z' {j} {k} {j'} {k'} hj hk hj' hk' ne =
    go (dec_le (place z j k + 64) (place z' j' k')) (dec_le (place z' j' k' + 64) (place z j k))
  where
    go : Dec (place z j k + 64 ≤ place z' j' k') → Dec (place z' j' k' + 64 ≤ place z j k) → Apart (place z j k) (place z' j' k')
    go (yes a) d = behind a
    go (no a) (yes b) = before b
    go (no a) (no b) = let e = place_same z z' hj hk hj' hk' (omega arith) (omega arith) in absurd (ne e.0 e.1 e.2)

-- a head word is in no part
pub head_outside : (z z' : ℕ) {j k i : ℕ} → j < 8 → k < 4 → i < 64 → Outside (place z j k) (head_place z' i)
unfolding place head_place
head_outside z z' {j} {k} {i} hj hk hi = go (dec_le z' z)
  where
    go : Dec (z' ≤ z) → Outside (place z j k) (head_place z' i)
    go (yes a) = below (omega arith)
    go (no a) = above (omega arith)

pub head_same : (z z' : ℕ) {i i' : ℕ} → i < 64 → i' < 64 → head_place z i ≡ head_place z' i' → (z ≡ z') × (i ≡ i')
unfolding head_place
head_same z z' {i} {i'} hi hi' e =
    let s : z ≡ z' = omega arith in
    (s, omega arith)

-- a host's replica has a place
pub replica_place_lem : (w : List ℕ) (z j h : ℕ) → replica_place (configuration w z j) h ≡ place z j (replica_number (members w z j) h)
unfolding replica_place configuration place
replica_place_lem w z j h = omega arith

-- ---- head words after a write

-- a write of a replica leaves the head words alone
module _ (w : List ℕ) {z j k Z : ℕ} (l : length w ≡ Z * 2112) (hz : z < Z) (hj : j < 8) (hk : k < 4) (r : Replica)
    (few : length r.history ≤ 56) where
  pub head_put : (z' : ℕ) {i : ℕ} → i < 64 → head_word (put_replica w (place z j k) r) z' i ≡ head_word w z' i
  unfolding head_word
  head_put z' hi = word_put_other w (place z j k) r (place_fits w l hz hj hk) few (head_outside z z' hj hk hi)

  pub sequencer_put : (z' : ℕ) → sequencer (put_replica w (place z j k) r) z' ≡ sequencer w z'
  unfolding sequencer
  sequencer_put z' = head_put z' (omega arith)

  pub installed_put : (z' : ℕ) → installed (put_replica w (place z j k) r) z' ≡ installed w z'
  unfolding installed
  installed_put z' = head_put z' (omega arith)

  pub members_put : (z' : ℕ) {j' : ℕ} → j' < 8 → members (put_replica w (place z j k) r) z' j' ≡ members w z' j'
  unfolding members
  members_put z' h = head_put z' (omega arith)

  pub orderer_put : (z' : ℕ) {j' : ℕ} → j' < 8 → orderer (put_replica w (place z j k) r) z' j' ≡ orderer w z' j'
  unfolding orderer
  orderer_put z' h = head_put z' (omega arith)

-- a write of a head word is read, and leaves the others alone
pub head_set : (w : List ℕ) {z i Z : ℕ} (x : ℕ) → length w ≡ Z * 2112 → z < Z → i < 64 → head_word (put_head w z i x) z i ≡ x
unfolding head_word put_head
head_set w {z} {i} x l hz hi = get_or-set_same w (head_place z i) x 0 (head_fits w l hz hi)

pub head_set_other : (w : List ℕ) (z z' : ℕ) {i i' : ℕ} (x : ℕ) → i < 64 → i' < 64 → (z ≡ z' → i ≡ i' → ⊥)
    → head_word (put_head w z i x) z' i' ≡ head_word w z' i'
unfolding head_word put_head
head_set_other w z z' {i} {i'} x hi hi' ne =
    get_or-set_other w (head_place z i) (head_place z' i') x 0
    (λ e. let s = head_same z z' hi hi' (sym e) in ne s.0 s.1)
