-- Kind 1, add: an entry goes last in the orderer's history.
use Rattle.std.specs.Prelude.{ℕ, Bool, not, ◌||◌, List, [], ◌∷◌, ltb, eqb, length}
use Rattle.model.specs.Tests.{all_of, contains}
use Rattle.model.specs.Checks.{Check, ◌or_else◌}
use Rattle.model.specs.Entries.{is_issue, issue_shard, rivals}
use Rattle.model.specs.Replicas.{Replica, most_entries, is_active, added}
use Rattle.model.specs.Layout.{sequencer, is_installed, put_replica}
use Rattle.model.specs.Configuration.{configuration, replica_of}
use Rattle.types.specs.ReplicaPlace.{replica_place}

-- the orderer's replica of configuration j, and its place
unfoldable pub orderer_place : List ℕ → ℕ → ℕ → ℕ
orderer_place w z j = replica_place (configuration w z j) (configuration w z j).orderer

unfoldable pub orderer_replica : List ℕ → ℕ → ℕ → Replica
orderer_replica w z j = replica_of w (configuration w z j) (configuration w z j).orderer

-- "17. Issue for a zone whose sequencer is another": passes for a take, and for an issue of a shard that z sequences
unfoldable pub may_issue : List ℕ → ℕ → ℕ → Bool
may_issue w z e = not (is_issue e) || eqb (sequencer w (issue_shard e)) z

-- request A2, "23, issue's index already issued here": passes where no entry of a history is a rival of e
unfoldable pub no_rival : ℕ → List ℕ → Bool
no_rival e l = all_of (λ x. not (rivals e x)) l

-- "add 10, 12, 17, 15, 16"; request A2: 23 "after 15 and before 16"
unfoldable pub add_checks : List ℕ → ℕ → ℕ → ℕ → List Check
add_checks w z j e =
    is_installed w z j or_else 10
    ∷ is_active (orderer_replica w z j) or_else 12
    ∷ may_issue w z e or_else 17
    ∷ not (contains e (orderer_replica w z j).history) or_else 15
    ∷ no_rival e (orderer_replica w z j).history or_else 23
    ∷ ltb (length (orderer_replica w z j).history) most_entries or_else 16
    ∷ []

unfoldable pub add_effect : List ℕ → ℕ → ℕ → ℕ → List ℕ
add_effect w z j e = put_replica w (orderer_place w z j) (added e (orderer_replica w z j))
