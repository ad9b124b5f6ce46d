-- `wellformed_configurations::configuration::all_replicas` meets its contract. The loop's invariant: the known history is proper, and the replicas
-- before k are well-formed.
use Prim.Native.Nat.{◌+◌, ◌*◌}
use mathlib.Core.Path.{◌≡◌}
use mathlib.Core.Bool.{true}
use Rattle.model.specs.Tests.{all_below, all_of}
use Rattle.model.specs.Entries.{is_entry}
use Rattle.model.specs.Layout.{part}
use Rattle.model.specs.WellFormed.{is_part}
use Rattle.wellformed_configurations.proofs.configuration.all_replicas.Given as goal

abbrev pub invariant-loop-k : goal.invariant-loop-k
invariant-loop-k l = (all_of (is_entry l.shards) l.known ≡ true) × (true ≡ all_below l.k (λ i. is_part l.shards l.j true (part l.state (l.place + i * 64))))
