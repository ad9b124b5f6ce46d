-- A step inside the machine: on a state of a proper length; and on one that is known to be well-formed, its kind, its shard and its index having passed.
use Rattle.std.specs.Prelude.{ℕ, ◌≡◌, ◌≤◌, List, length, Ok}
use Rattle.types.specs.declared.kind.Kind.{Kind}
use Rattle.types.specs.declared.step.Step.{Step}
use Rattle.types.specs.Kinds.{kind_of}
use Rattle.model.specs.Layout.{shards_of}
use Rattle.step_numbers.specs.StepRanges.{range_rejection}
use Rattle.lookup.specs.Ready.{Formed}

-- a state with its number of shards
pub record HasShards (w : List ℕ) (shards : ℕ) : Type 0 where
  pub count : shards ≡ shards_of (length w)
  pub several : 2 ≤ shards_of (length w)

-- a well-formed state with its number of shards, and a step with its kind
pub record ReadyStep (w : List ℕ) (shards : ℕ) (k : Kind) (s : Step) : Type 0 where
  pub state : Formed w
  pub count : shards ≡ shards_of (length w)
  pub kind : Ok k ≡ kind_of s.kind
  pub range : 0 ≡ range_rejection shards s
