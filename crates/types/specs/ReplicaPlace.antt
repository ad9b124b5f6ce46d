-- Where the replica of a host is in a configuration.
use Rattle.std.specs.Prelude.{ℕ, ◌+◌, ◌*◌}
use Rattle.types.specs.declared.configuration.Configuration.{Configuration}
use Rattle.types.specs.Members.{replica_number}

-- how many words a replica has
abbrev pub part_words : ℕ
part_words = 64

-- the place of a host's replica
unfoldable pub replica_place : Configuration → ℕ → ℕ
replica_place c h = c.place + part_words * replica_number c.members h
