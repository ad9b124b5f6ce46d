-- What a step names: its shard, its configuration and its acting host.
use Rattle.std.specs.Prelude.{ℕ, ◌-◌, cond}
use Rattle.types.specs.declared.step.Step.{Step}
use Rattle.types.specs.Kinds.{kind_of, names_host}

-- "A step is a kind and four numbers": the shard, the configuration counted from 0, and the acting host (request A7: "the named one; for add it is the
-- orderer of the named configuration")
unfoldable pub shard_of : Step → ℕ
shard_of s = s.a

unfoldable pub configuration_of : Step → ℕ
configuration_of s = s.b - 1

unfoldable pub acting_host : Step → ℕ → ℕ
acting_host s o = cond (names_host (kind_of s.kind)) s.c o
