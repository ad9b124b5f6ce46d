-- `records::text::append_text` meets its contract.
use mathlib.Core.List.{◌++◌}
use Rattle.decimal_text.specs.Appended.{Appended}
use Rattle.csv_rows.specs.Format.{row_text}
use Rattle.csv_rows.specs.Csv.{header}
use Rattle.csv_rows.proofs.TextParts.{first_shards}
use Rattle.records.proofs.text.append_text.Given as goal

abbrev pub invariant-loop-shard : goal.invariant-loop-shard
invariant-loop-shard l = Appended l.fn.text (row_text header ++ first_shards l.state l.shard) l.text
