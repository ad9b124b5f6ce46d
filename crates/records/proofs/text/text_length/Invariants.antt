-- `records::text::text_length` meets its contract.
use Prim.Native.Nat.{◌+◌}
use mathlib.Core.Path.{◌≡◌}
use lib.ListN.{length}
use Rattle.records.specs.LargestCsv.{header_bytes}
use Rattle.csv_rows.proofs.TextParts.{first_shards}
use Rattle.records.proofs.text.text_length.Given as goal

abbrev pub invariant-loop-shard : goal.invariant-loop-shard
invariant-loop-shard l = l.sum ≡ header_bytes + length (first_shards l.state l.shard)
