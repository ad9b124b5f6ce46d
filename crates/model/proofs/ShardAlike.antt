-- States that have a shard alike: all words of its block, and the sequencer of every shard. What is read of that shard is the same in both, and a replica
-- that is written to a shard leaves every other one alike.
-- Assumes nothing.
use Prim.Native.Nat.{ℕ, ◌+◌, ◌*◌, ◌≤◌, ◌<◌}
use native.Mathlib.Omega.{arith}
use native.Mathlib.Decide.{dec_lt}
use mathlib.Core.Path.{◌≡◌, ap}
use mathlib.Core.List.{List}
use lib.ListN.{length, get_or}
use Rattle.model.specs.Replicas.{Replica, read_replica}
use Rattle.model.specs.Layout.{head_place, place, head_word, sequencer, installed, members, orderer, replica_at, put_replica}
use Rattle.model.proofs.Parts.{Outside, below, above, part_same, put_length, word_put_other}
use Rattle.model.proofs.Places.{place_fits, sequencer_put}

pub record ShardAlike (z : ℕ) (v w : List ℕ) : Type 0 where
  pub long : length v ≡ length w
  pub words : (i : ℕ) → i < 2112 → get_or v (z * 2112 + i) 0 ≡ get_or w (z * 2112 + i) 0
  pub sequencers : (y : ℕ) → sequencer v y ≡ sequencer w y

-- ---- what is read

module _ {z : ℕ} {v w : List ℕ} (a : ShardAlike z v w) where
  head_alike : {i : ℕ} → i < 64 → head_word v z i ≡ head_word w z i
  unfolding head_word head_place
  head_alike {i} h = a.words i (omega arith)

  pub installed-alike : installed v z ≡ installed w z
  unfolding installed
  installed-alike = head_alike (omega arith)

  pub members_alike : {j : ℕ} → j < 8 → members v z j ≡ members w z j
  unfolding members
  members_alike h = head_alike (omega arith)

  pub orderer-alike : {j : ℕ} → j < 8 → orderer v z j ≡ orderer w z j
  unfolding orderer
  orderer-alike h = head_alike (omega arith)

  pub replica_alike : {j k : ℕ} → j < 8 → k < 4 → replica_at v (place z j k) ≡ replica_at w (place z j k)
  unfolding replica_at place
  replica_alike {j} {k} hj hk =
      ap read_replica
      (part_same v w (z * 2112 + 64 + j * 256 + k * 64) a.long
      (λ i h.
      let at : z * 2112 + 64 + j * 256 + k * 64 + i ≡ z * 2112 + (64 + j * 256 + k * 64 + i) = omega arith in
      rw at (a.words (64 + j * 256 + k * 64 + i) (omega arith))))

-- ---- what is written

module _ (w : List ℕ) {Z z j k : ℕ} (l : length w ≡ Z * 2112) (hz : z < Z) (hj : j < 8) (hk : k < 4) (r : Replica)
    (few : length r.history ≤ 56) where
  -- a word of another shard lies outside
  outside : (y i : ℕ) → (z ≡ y → ⊥) → i < 2112 → Outside (place z j k) (y * 2112 + i)
  unfolding place
  outside y i ne h = go (dec_lt y z)
    where
      go : Dec (y < z) → Outside (z * 2112 + 64 + j * 256 + k * 64) (y * 2112 + i)
      go (yes q) = below (omega arith)
      go (no q) = let after : z < y = omega (arith, ne, q) in above (omega arith)

  pub others_alike : (y : ℕ) → (z ≡ y → ⊥) → ShardAlike y (put_replica w (place z j k) r) w
  others_alike y ne =
      record {
        long = put_length w (place z j k) r (place_fits w l hz hj hk) few;
        words = λ i h. word_put_other w (place z j k) r (place_fits w l hz hj hk) few (outside y i ne h);
        sequencers = sequencer_put w l hz hj hk r few;
      }
