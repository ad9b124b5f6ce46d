-- `wellformed::well_formed` meets its contract, by those of the functions it calls. The shards of a length fit it.
use Prim.Native.Nat.{ℕ}
use mathlib.Core.Path.{◌≡◌, sym, ap, ◌∙◌}
use Rattle.std.specs.Prelude.{Result}
use Rattle.std.specs.Result.{result_unwrap_or}
use Rattle.types.specs.declared.rejection.Rejection.{Rejection}
use Rattle.model.specs.Layout.{shards_of}
use Rattle.model.specs.WellFormed.{well_formed}
use Rattle.model.proofs.Lengths.{shards_fit}
use Rattle.wellformed.specs.Checked.{shard_count_of}
use Rattle.wellformed.proofs.FoundCount.{count_or_0}
use Rattle.wellformed.proofs.SpacedSequencers.{sequencers_spaced, sequencers_differ}
use Rattle.wellformed.proofs.well_formed.Goals as goal

-- the shards that are gone through are those of the length
counted : (n : ℕ) {k : ℕ} {r : Result ℕ Rejection} → r ≡ shard_count_of n → k ≡ result_unwrap_or r 0 → k ≡ shards_of n
counted n e f = f ∙ ap (λ (x : Result ℕ Rejection). result_unwrap_or x 0) e ∙ count_or_0 n

pub all_shards-requires : goal.all_shards-requires
all_shards-requires c = rw (counted _ c.shard_count.ensures c.unwrap_or-shards.ensures) (shards_fit _)

pub all_differ-requires : goal.all_differ-requires
all_differ-requires c = rw (counted _ c.shard_count.ensures c.unwrap_or-shards.ensures) (sequencers_spaced _)

pub returns-then-all_shards : goal.returns-then-all_shards
unfolding well_formed
returns-then-all_shards c =
    rw (← counted _ c.shard_count.ensures c.unwrap_or-shards.ensures, sym c.all_shards.ensures ∙ c.if-all_shards.true, sequencers_differ)
    c.all_differ.ensures

pub returns-else-all_shards : goal.returns-else-all_shards
unfolding well_formed
returns-else-all_shards c =
    rw (← counted _ c.shard_count.ensures c.unwrap_or-shards.ensures, sym c.all_shards.ensures ∙ c.if-all_shards.false) c.if-all_shards.false
