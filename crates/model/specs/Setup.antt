-- Setup (document 01, "State": "Setup takes a plan of 3 × Z words (sequencer, members, orderer for each zone)"), rejections 1 and 2.
use Rattle.std.specs.Prelude.{ℕ, ◌+◌, ◌*◌, Bool, cond, ◌&&◌, List, [], ◌∷◌, ◌++◌, ltb, eqb, length, get_or, replicate}
use Rattle.model.specs.Tests.{all_below, concat_below}
use Rattle.model.specs.Checks.{first_of, ◌or_else◌}
use Rattle.types.specs.Members.{size, is_configuration}
use Rattle.model.specs.Replicas.{Replica, replica_words, fresh, unused}
use Rattle.model.specs.Layout.{shards_of, is_state_length}
use Rattle.model.specs.WellFormed.{is_sequencer, all_differ}

-- the three words of shard z in a plan
unfoldable pub plan_sequencer : List ℕ → ℕ → ℕ
plan_sequencer p z = get_or p (3 * z) 0

unfoldable pub plan_members : List ℕ → ℕ → ℕ
plan_members p z = get_or p (3 * z + 1) 0

unfoldable pub plan_orderer : List ℕ → ℕ → ℕ
plan_orderer p z = get_or p (3 * z + 2) 0

unfoldable pub is_planned_shard : ℕ → List ℕ → ℕ → Bool
is_planned_shard Z p z = is_sequencer Z z (plan_sequencer p z) && is_configuration (plan_members p z) (plan_orderer p z)

-- rejection 2: "Plan length is not 3 × Z, or its zones break good form"
unfoldable pub is_plan : ℕ → List ℕ → Bool
is_plan Z p = eqb (length p) (3 * Z) && all_below Z (is_planned_shard Z p) && all_differ Z (plan_sequencer p)

-- "Setup: 1, 2."
unfoldable pub setup_rejection : List ℕ → List ℕ → ℕ
setup_rejection w p = first_of (is_state_length (length w) or_else 1 ∷ is_plan (shards_of (length w)) p or_else 2 ∷ [])

-- "index 1 installed, its seats active, lists empty": the head words, then 32 replicas, of which the first as many as there are members are in use
unfoldable pub initial_head : ℕ → ℕ → ℕ → List ℕ
initial_head q m o = (q ∷ 1 ∷ m ∷ []) ++ (replicate 7 0 ++ (o ∷ replicate 53 0))

unfoldable pub initial_replica : ℕ → ℕ → Replica
initial_replica m n = cond (ltb n (size m)) fresh unused

unfoldable pub initial_shard : ℕ → ℕ → ℕ → List ℕ
initial_shard q m o = initial_head q m o ++ concat_below 32 (λ n. replica_words (initial_replica m n))

-- "It writes the whole state"
unfoldable pub initial_state : ℕ → List ℕ → List ℕ
initial_state Z p = concat_below Z (λ z. initial_shard (plan_sequencer p z) (plan_members p z) (plan_orderer p z))

-- what setup leaves
unfoldable pub after_setup : List ℕ → List ℕ → List ℕ
after_setup w p = cond (eqb (setup_rejection w p) 0) (initial_state (shards_of (length w)) p) w
