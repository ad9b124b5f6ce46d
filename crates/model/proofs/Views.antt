-- The invariant of one shard, over a view of its replicas: configuration j, replica k. No words of a state stand here.
-- Assumes nothing.
use Prim.Native.Nat.{ℕ, suc, ◌≤◌, ◌<◌}
use mathlib.Core.Path.{◌≡◌}
use mathlib.Core.List.{List, []}
use lib.ListN.{length}
use Rattle.model.specs.Replicas.{Replica, stable_prefix}
use Rattle.model.specs.Prefixes.{Begins}
use Rattle.model.proofs.Histories.{Once, Offered}
use Rattle.model.proofs.Rivals.{Single}

abbrev pub View : Type 0
View = ℕ → ℕ → Replica

-- an immutable replica of configuration j whose history begins l
pub record Root (v : View) (j : ℕ) (l : List ℕ) : Type 0 where
  pub number : ℕ
  pub is_immutable : (v j number).mode ≡ 3
  pub begins : Begins (v j number).history l

-- an immutable replica of configuration j whose stable prefix l begins
pub record Stem (v : View) (j : ℕ) (l : List ℕ) : Type 0 where
  pub number : ℕ
  pub is_immutable : (v j number).mode ≡ 3
  pub begins : Begins l (stable_prefix (v j number))

-- modes 2 and 3 are those of a replica that has a history: active or immutable
pub record Inv (v : View) (offer : List ℕ) : Type 0 where
  pub fits : (j k : ℕ) → (v j k).stable ≤ length (v j k).history
  -- an unused or pending replica has no history
  pub blank : (j k : ℕ) → (v j k).mode < 2 → (v j k).history ≡ []
  -- a stable prefix begins every history of its own and of every later configuration
  pub reach : (i k j l : ℕ) → i ≤ j → 2 ≤ (v j l).mode → Begins (stable_prefix (v i k)) (v j l).history
  -- every history comes from an immutable one of the configuration before
  pub rooted : (j k : ℕ) → 2 ≤ (v (suc j) k).mode → Root v j (v (suc j) k).history
  -- while a replica p is pending, nothing is stable that was not stable in the configuration before
  pub stemmed : (j p k : ℕ) → (v (suc j) p).mode ≡ 1 → 2 ≤ (v (suc j) k).mode → Stem v j (stable_prefix (v (suc j) k))
  pub once : (j k : ℕ) → Once (v j k).history
  pub single : (j k : ℕ) → Single (v j k).history
  pub offered : (j k : ℕ) → Offered offer (v j k).history
