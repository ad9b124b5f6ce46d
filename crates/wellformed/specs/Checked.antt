-- What the tests of a state answer: its number of shards, or the rejection.
use Rattle.std.specs.Prelude.{ℕ, cond, List, eqb, length, Result, Ok, Err}
use Rattle.types.specs.declared.rejection.Rejection.{Rejection}
use Rattle.types.specs.declared.rejection.Rejection.TheVariants.{StateLength}
use Rattle.types.specs.Rejections.{answered}
use Rattle.model.specs.Layout.{shards_of}
use Rattle.model.specs.Replay.{replay_rejection}

-- the test of a length: rejection 1 where no state has it
unfoldable pub shard_count_of : ℕ → Result ℕ Rejection
shard_count_of n = cond (eqb (shards_of n) 0) (Err StateLength) (Ok (shards_of n))

-- both tests: rejection 1, then 9
unfoldable pub checked : List ℕ → Result ℕ Rejection
checked w = answered (replay_rejection w) (shards_of (length w))
