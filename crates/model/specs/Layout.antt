-- Where a state's words are (document 01, "State": "Z blocks of 2,112 words, Z from 2 to 8 .. 64 head words, then 32 seats of 64 words").
-- Configurations are counted from 0 here: configuration j has index j + 1.
use Rattle.std.specs.Prelude.{ℕ, ◌+◌, ◌*◌, Bool, cond, List, ◌++◌, leb, ltb, eqb, get_or, take, drop, set}
use Rattle.types.specs.ReplicaPlace.{part_words}
use Rattle.model.specs.Replicas.{Replica, read_replica, replica_words}

-- how many words a shard has, its head, and one of its configurations (four replicas); a replica has `part_words`
abbrev pub shard_words : ℕ
shard_words = 2112

abbrev pub head_words : ℕ
head_words = 64

abbrev pub configuration_words : ℕ
configuration_words = 256

-- the Z of a state's length, 0 for a length that no state has; request A5: "only by comparing with the seven lengths that can occur".
-- `Lengths.antt` says that it is the quotient by 2,112
unfoldable pub shards_of : ℕ → ℕ
shards_of n =
    cond (eqb n 4224) 2
    (cond (eqb n 6336) 3
    (cond (eqb n 8448) 4
    (cond (eqb n 10560) 5
    (cond (eqb n 12672) 6
    (cond (eqb n 14784) 7
    (cond (eqb n 16896) 8 0))))))

-- rejection 1: "State length is no 2,112 × Z"
unfoldable pub is_state_length : ℕ → Bool
is_state_length n = leb 2 (shards_of n)

-- the place of head word i of shard z
unfoldable pub head_place : ℕ → ℕ → ℕ
head_place z i = z * shard_words + i

-- the place of replica k of configuration j of shard z: "index 1 seats 0 to 3, then index 2, up to index 8"
unfoldable pub place : ℕ → ℕ → ℕ → ℕ
place z j k = z * shard_words + head_words + j * configuration_words + k * part_words

unfoldable pub head_word : List ℕ → ℕ → ℕ → ℕ
head_word w z i = get_or w (head_place z i) 0

-- "Head word 0: the zone's sequencer"
unfoldable pub sequencer : List ℕ → ℕ → ℕ
sequencer w z = head_word w z 0

-- "Word 1: how many configurations are installed"
unfoldable pub installed : List ℕ → ℕ → ℕ
installed w z = head_word w z 1

-- "Words 2 to 9: member sets of index 1 to 8"
unfoldable pub members : List ℕ → ℕ → ℕ → ℕ
members w z j = head_word w z (2 + j)

-- "Words 10 to 17: orderer boxes of index 1 to 8"
unfoldable pub orderer : List ℕ → ℕ → ℕ → ℕ
orderer w z j = head_word w z (10 + j)

-- index j + 1 is installed
unfoldable pub is_installed : List ℕ → ℕ → ℕ → Bool
is_installed w z j = ltb j (installed w z)

-- a replica's 64 words, the replica that they hold, and the state with another replica there
unfoldable pub part : List ℕ → ℕ → List ℕ
part w at = take part_words (drop at w)

unfoldable pub replica_at : List ℕ → ℕ → Replica
replica_at w at = read_replica (part w at)

unfoldable pub put_replica : List ℕ → ℕ → Replica → List ℕ
put_replica w at r = take at w ++ (replica_words r ++ drop (at + part_words) w)

unfoldable pub put_head : List ℕ → ℕ → ℕ → ℕ → List ℕ
put_head w z i x = set w (head_place z i) x
