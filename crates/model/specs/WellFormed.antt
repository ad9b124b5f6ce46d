-- Well-formedness of a whole state ("good form" of document 01, "State").
use Rattle.std.specs.Prelude.{ℕ, ◌+◌, Bool, cond, not, ◌&&◌, ◌||◌, List, leb, ltb, eqb, length}
use Rattle.model.specs.Tests.{all_below, all_of, same}
use Rattle.types.specs.Members.{size, is_configuration}
use Rattle.model.specs.Entries.{is_entry}
use Rattle.model.specs.Replicas.{Replica, most_entries, read_replica, replica_words, is_pending}
use Rattle.model.specs.Layout.{shards_of, place, head_word, sequencer, installed, members, orderer, is_installed, part, replica_at}
use Rattle.model.specs.Origins.{is_origin_of}

-- a member's replica: "seats of members have mode 1 to 3 .. a pending seat has an empty list and is not of index 1; confirmed is at most the
-- length; entries are proper"; "list length, 0 to 56"
unfoldable pub is_replica : ℕ → ℕ → Replica → Bool
is_replica Z j r =
    leb 1 r.mode && leb r.mode 3 && leb (length r.history) most_entries && leb r.stable (length r.history)
    && all_of (is_entry Z) r.history
    && (not (is_pending r) || (eqb (length r.history) 0 && leb 1 j))

-- "all other seats .. are 0"
unfoldable pub is_unused : Replica → Bool
is_unused r = eqb r.mode 0 && eqb (length r.history) 0 && eqb r.stable 0 && eqb r.origin 0

-- the 64 words of a replica of configuration j: just the words of what they hold, which is proper for a member's or another's replica
unfoldable pub is_part : ℕ → ℕ → Bool → List ℕ → Bool
is_part Z j is_member p =
    same p (replica_words (read_replica p)) && cond is_member (is_replica Z j (read_replica p)) (is_unused (read_replica p))

-- "every sequencer is a zone below Z, none its own .."
unfoldable pub is_sequencer : ℕ → ℕ → ℕ → Bool
is_sequencer Z z q = ltb q Z && not (eqb q z)

-- ".. no two alike"
unfoldable pub all_differ : ℕ → (ℕ → ℕ) → Bool
all_differ Z q = all_below Z (λ a. all_below a (λ b. not (eqb (q b) (q a))))

-- the head words of configuration j: a proper member set and its orderer where it is installed, else 0
unfoldable pub is_head_of : List ℕ → ℕ → ℕ → Bool
is_head_of w z j =
    cond (is_installed w z j) (is_configuration (members w z j) (orderer w z j))
    (eqb (members w z j) 0 && eqb (orderer w z j) 0)

-- configuration j of shard z: its head words, its four replicas, and the origins of those of members
unfoldable pub is_configuration_of : List ℕ → ℕ → ℕ → ℕ → Bool
is_configuration_of w Z z j =
    is_head_of w z j && all_below 4 (λ k. is_part Z j (ltb k (size (members w z j))) (part w (place z j k)))
    && all_below (size (members w z j)) (λ k. is_origin_of w z j (replica_at w (place z j k)))

-- shard z: its sequencer; "1 to 8 installed"; its configurations; "The rest are 0"
unfoldable pub is_shard : List ℕ → ℕ → ℕ → Bool
is_shard w Z z =
    is_sequencer Z z (sequencer w z) && leb 1 (installed w z) && leb (installed w z) 8
    && all_below 8 (is_configuration_of w Z z)
    && all_below 46 (λ i. eqb (head_word w z (18 + i)) 0)

-- rejection 9: the whole state (of a length 2,112 × Z)
unfoldable pub well_formed : List ℕ → Bool
well_formed w = all_below (shards_of (length w)) (is_shard w (shards_of (length w))) && all_differ (shards_of (length w)) (sequencer w)
