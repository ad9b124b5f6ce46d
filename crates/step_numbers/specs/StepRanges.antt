-- The rejections that come before the state is looked at.
use Rattle.std.specs.Prelude.{ℕ, Bool, not, ◌&&◌, [], ◌∷◌, leb, ltb}
use Rattle.types.specs.declared.step.Step.{Step}
use Rattle.model.specs.Checks.{first_of, ◌or_else◌}
use Rattle.types.specs.Kinds.{kind_of, is_kept, is_unknown}
use Rattle.types.specs.StepNames.{shard_of}

-- "zone not below Z, index not 1 to 8": passes for a shard and an index that are in range
unfoldable pub is_index_of : ℕ → ℕ → ℕ → Bool
is_index_of Z z i = ltb z Z && leb 1 i && leb i 8

-- rejections 3, 4 and 7 of a step's kind, shard and index; 0 where none applies
unfoldable pub range_rejection : ℕ → Step → ℕ
range_rejection Z s =
    first_of
    (not (is_kept (kind_of s.kind)) or_else 3
    ∷ not (is_unknown (kind_of s.kind)) or_else 4
    ∷ is_index_of Z (shard_of s) s.b or_else 7
    ∷ [])
