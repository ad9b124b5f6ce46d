-- The replicas of a shard of a well-formed state: their stable prefixes are words of the state.
use Prim.Native.Nat.{ℕ, ◌+◌, ◌-◌, ◌/◌, ◌%◌, ◌≤◌, ◌<◌}
use native.Mathlib.Nat.{add-sub_cancel_left}
use native.Mathlib.Omega.{arith}
use mathlib.Core.Path.{◌≡◌, ap, ◌∙◌}
use mathlib.Core.Bool.{Bool, true, false}
use mathlib.Core.List.{List}
use lib.Dec.{ltb}
use lib.ListN.{length, get_or, take, drop, length-take, length-drop}
use lib.Seq.{take-take}
use Rattle.types.specs.Members.{size, has_member}
use Rattle.model.specs.Replicas.{most_entries, read_replica, replica_words, stable_prefix}
use Rattle.types.specs.ReplicaPlace.{part_words, replica_place}
use Rattle.model.specs.Layout.{shards_of, place, members, part, replica_at}
use Rattle.model.specs.Configuration.{configuration}
use Rattle.model.specs.WellFormed.{is_part}
use Rattle.model.proofs.Places.{replica_place_lem, place_fits}
use Rattle.model.proofs.SeatedReplica.{number_small}
use Rattle.model.proofs.WellFormedParts.{part_is_words, part_proper, part_vacant}
use Rattle.model.proofs.Fields.{stable_word}
use Rattle.lookup.proofs.ReadyFields.{formed}
use Rattle.lookup.proofs.StateWords.{length_word, length_few, history_words}
use Rattle.lookup.specs.Ready.{Formed, Ready}
use Rattle.stable_entries.specs.StableEntries.{entries_at, HasEntries}
use Rattle.stable_entries.specs.Pick.{OfShard}

-- a replica's place: its words are in the state, and its stable prefix is the first of its entries
pub record Settled (w : List ℕ) (at : ℕ) : Type 0 where
  pub has : HasEntries w at
  pub entries : stable_prefix (replica_at w at) ≡ entries_at w at
  pub count : length (stable_prefix (replica_at w at)) ≡ get_or w (at + 2) 0

-- the part of the state that holds a stable prefix
pub entries_part : (w : List ℕ) (p : ℕ) → take (p + 8 + get_or w (p + 2) 0 - (p + 8)) (drop (p + 8) w) ≡ entries_at w p
unfolding entries_at
entries_part w p = rw (add-sub_cancel_left (p + 8) (get_or w (p + 2) 0))

module _ (w : List ℕ) (at : ℕ) (fits : at + part_words ≤ length w) where
  -- as many entries as the stable length says
  pub entries_length : get_or w (at + 2) 0 ≤ 56 → length (entries_at w at) ≡ get_or w (at + 2) 0
  unfolding entries_at
  entries_length h = simp (length-take, length-drop) (omega arith)

  settled : part w at ≡ replica_words (replica_at w at) → (replica_at w at).stable ≤ length (replica_at w at).history → Settled w at
  unfolding stable_prefix entries_at
  settled e h =
      let l = get_or w (at + 1) 0 in
      let m : get_or w (at + 2) 0 ≤ l = omega (arith, stable_word w at, length_word w at e) in
      let few : get_or w (at + 2) 0 ≤ most_entries = omega (arith, length_few w at e) in
      let p : stable_prefix (replica_at w at) ≡ entries_at w at =
      rw (stable_word w at, history_words w at e) (take-take (get_or w (at + 2) 0) l (drop (at + 8) w) m) in
      record { has = record { fits = fits; few = few }; entries = p; count = ap length p ∙ entries_length few }

-- a part of a well-formed state, of a member or not
stable_small : (Z j : ℕ) (b : Bool) (p : List ℕ) → is_part Z j b p ≡ true → (read_replica p).stable ≤ length (read_replica p).history
stable_small Z j true p e = (part_proper Z j p e).stable_most
stable_small Z j false p e = omega (arith, (part_vacant Z j p e).stable_none)

-- replica k of configuration j of shard z
part_settled : {w : List ℕ} {z j k : ℕ} → Formed w → z < shards_of (length w) → j < 8 → k < 4 → Settled w (place z j k)
unfolding replica_at
part_settled {w} {z} {j} {k} f hz hj hk =
    settled w (place z j k) (place_fits w f.long hz hj hk)
    (part_is_words (shards_of (length w)) j (ltb k (size (members w z j))) (part w (place z j k)) e)
    (stable_small (shards_of (length w)) j (ltb k (size (members w z j))) (part w (place z j k)) e)
  where
    e : is_part (shards_of (length w)) j (ltb k (size (members w z j))) (part w (place z j k)) ≡ true
    e = (formed f).parts z j k hz hj hk

-- the replica of a host that is a member
pub host_settled : {w : List ℕ} {z j : ℕ} → Ready w z j → (h : ℕ) → has_member (members w z j) h ≡ true
    → Settled w (replica_place (configuration w z j) h)
host_settled {w} {z} {j} r h e =
    rw (replica_place_lem w z j h)
    (part_settled r.state r.shard r.configuration (number_small (formed r.state) r.shard r.configuration h e))

-- the replicas of a shard, counted through
place_of : (z n : ℕ) → place z 0 n ≡ place z (n / 4) (n % 4)
unfolding place
place_of z n = omega arith

pub shard_settled : {w : List ℕ} {z : ℕ} → OfShard w z → (n : ℕ) → n < 32 → Settled w (place z 0 n)
shard_settled {w} {z} s n h = rw (place_of z n) (part_settled s.formed s.shard (omega arith) (omega arith))
