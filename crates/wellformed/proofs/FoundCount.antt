-- The number of shards of a length, or 0.
use Prim.Native.Nat.{ℕ}
use mathlib.Core.Path.{◌≡◌, refl, sym}
use mathlib.Core.Bool.{Bool, true, false, cond}
use lib.Dec.{eqb}
use borrow.Author.Tests.{eqb-true}
use Rattle.std.specs.Prelude.{Result, Ok, Err}
use Rattle.std.specs.Result.{result_unwrap_or}
use Rattle.types.specs.declared.rejection.Rejection.{Rejection}
use Rattle.types.specs.declared.rejection.Rejection.TheVariants.{StateLength}
use Rattle.model.specs.Layout.{shards_of}
use Rattle.wellformed.specs.Checked.{shard_count_of}

-- the count of a length, or 0 where no state has it
pub count_or_0 : (n : ℕ) → result_unwrap_or (shard_count_of n) 0 ≡ shards_of n
unfolding shard_count_of
count_or_0 n = go (eqb (shards_of n) 0) refl
  where
    go : (t : Bool) → eqb (shards_of n) 0 ≡ t → result_unwrap_or (cond {A = Result ℕ Rejection} t (Err StateLength) (Ok (shards_of n))) 0 ≡ shards_of n
    go true e = sym (eqb-true (shards_of n) 0 e)
    go false e = refl
