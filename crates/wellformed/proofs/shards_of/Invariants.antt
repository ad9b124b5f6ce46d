-- `wellformed::shards_of` meets its contract. The loop's invariant: the count is right where the length is that of fewer shards, and else 0.
use Prim.Native.Nat.{◌≤◌, ◌<◌}
use mathlib.Core.Path.{◌≡◌}
use Rattle.model.specs.Layout.{shards_of}
use Rattle.wellformed.proofs.shards_of.Given as goal

abbrev pub invariant-loop-shards : goal.invariant-loop-shards
invariant-loop-shards l = (shards_of l.len < l.shards → l.count ≡ shards_of l.len) × (l.shards ≤ shards_of l.len → l.count ≡ 0)
